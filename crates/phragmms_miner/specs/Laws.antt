-- What holds of the runs of an election.
use Rattle.std.specs.Prelude.{◌≡◌, ℕ, ◌≤◌, length}
use Rattle.election_snapshot.specs.Snapshot.{Snapshot}
use Rattle.weight_book.specs.Weights.{Weights, IsFeasible}
use Rattle.phragmms_miner.specs.Run.{IsRun}

-- an election has at most one run, by the number of balancing rounds
abbrev pub OneRun : Type 0
OneRun = (snapshot : Snapshot) (rounds : ℕ) (one other : Weights) → IsRun snapshot rounds one
    → IsRun snapshot rounds other → one ≡ other

-- it has one whose weights are feasible, where there are enough targets
abbrev pub AnyRun : Type 0
AnyRun = (snapshot : Snapshot) (rounds : ℕ) → 1 ≤ rounds → snapshot.seats ≤ length snapshot.targets
    → (weights : Weights) × IsRun snapshot rounds weights × IsFeasible snapshot weights
