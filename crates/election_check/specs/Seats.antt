-- A committee that was elected, with the weights that show it.
use Rattle.std.specs.Prelude.{◌≡◌, IsPermutation}
use Rattle.election_snapshot.specs.Snapshot.{Snapshot}
use Rattle.weight_book.specs.Room.{WeightBook, KeepsRoom}

pub record Seats : Type 0 where
  pub snapshot : Snapshot
  pub weights : WeightBook

-- the weights are the same but for the order of their members
pub record IsReordered (old new : WeightBook) : Type 0 where
  pub members : IsPermutation old.plain.committee new.plain.committee
  pub edges : new.plain.edges ≡ old.plain.edges
  pub room : KeepsRoom old new
