-- Each of the picks was the first with the least score of those outside.
use Rattle.std.proofs.Common.{◌≡◌, ℕ, ◌<◌, ◌≤◌, false, List, length}
use Rattle.election_snapshot.specs.Snapshot.{Snapshot, has}
use Rattle.seat_race.specs.Picks.{less, IsPick}
use Rattle.seat_race.proofs.PickLemmas.{not_less, less_orders}
use Rattle.seat_race.proofs.PickLemmas.{AreRun as AreRunOf, are_run as are_run_of}
use Rattle.seq_phragmen.specs.Mined.{score, load_after, picked}

-- what the targets are worth after these picks
abbrev pub scores : Snapshot → List ℕ → ℕ → ℕ
scores snapshot picks = score snapshot (load_after snapshot picks)

abbrev pub AreRun : Snapshot → List ℕ → Type 0
AreRun snapshot picks = AreRunOf (length snapshot.targets) less less_orders (scores snapshot) picks

pub are_run : (snapshot : Snapshot) (count : ℕ) → AreRun snapshot (picked snapshot count)
are_run snapshot count = are_run_of (length snapshot.targets) less less_orders (scores snapshot) count

pub least_of : (snapshot : Snapshot) (picks : List ℕ) (target : ℕ) → IsPick (length snapshot.targets) less (scores snapshot picks) picks target
    → (other : ℕ) → other < length snapshot.targets → has picks other ≡ false → scores snapshot picks target ≤ scores snapshot picks other
least_of snapshot picks target is other h out = not_less (scores snapshot picks other) (scores snapshot picks target) (is.best other h out)
