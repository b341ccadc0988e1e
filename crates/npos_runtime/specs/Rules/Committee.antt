-- A committee that waits for its era.
use Rattle.std.specs.Prelude.{◌≡◌, ℕ, List, Option, Some, None}
use Rattle.election_check.specs.Seats.{Seats}
use Rattle.election_snapshot.specs.Snapshot.{Snapshot}
use Rattle.weight_book.specs.Weights.{Weights}

-- the snapshot that it was elected from, its weights with the members in rising order, and the
-- commissions of the snapshot's targets, in billionths, as they were when it was taken
pub record Committee : Type 0 where
  pub snapshot : Snapshot
  pub weights : Weights
  pub commissions : List ℕ

-- the seats are those of the committee that waits; there are none where none waits
abbrev pub IsSeated : Option Committee → Option Seats → Type 0
IsSeated None None = Unit {0}
IsSeated (Some committee) (Some seats) =
    (seats.snapshot ≡ committee.snapshot) × (seats.weights.plain ≡ committee.weights)
IsSeated other seats = ⊥
