-- What holds of the fill of every well-formed snapshot.
use Rattle.std.specs.Prelude.{◌≡◌, ℕ, suc, ◌<◌, ◌≤◌, IsFalse, List, ◌∷◌, length}
use Rattle.election_snapshot.specs.Snapshot.{Snapshot, IsWellFormed, has}
use Rattle.weight_book.specs.Passing.{Passes}
use Rattle.quota_fill.specs.Filled.{backing, picked, filled}

abbrev pub EveryFillPasses : Type 0
EveryFillPasses = (snapshot : Snapshot) → IsWellFormed snapshot → Passes snapshot (filled snapshot)

-- After these picks the target is the lowest of those outside whose nominators have the most left.
pub record IsPick (snapshot : Snapshot) (picks : List ℕ) (target : ℕ) : Type 0 where
  pub in_range : target < length snapshot.targets
  pub is_outside : IsFalse (has picks target)
  pub greatest : (other : ℕ) → other < length snapshot.targets → IsFalse (has picks other)
      → backing snapshot picks other ≤ backing snapshot picks target
  pub lowest : (other : ℕ) → other < target → IsFalse (has picks other)
      → backing snapshot picks other < backing snapshot picks target

-- the seats are filled by such picks, one after the other
abbrev pub SeatsArePicks : Type 0
SeatsArePicks = (snapshot : Snapshot) (count : ℕ) → IsWellFormed snapshot → count < snapshot.seats
    → (target : ℕ) × (picked snapshot (suc count) ≡ target ∷ picked snapshot count)
    × IsPick snapshot (picked snapshot count) target
