-- A packed solution while its entries are taken, one after the other.
use Rattle.std.specs.Prelude.{◌≡◌, ℕ, ◌+◌, Bool, true, false, nat_lt, if◌then◌else◌, List, [], ◌++◌, None, slice_index_or, slice_set}
use Rattle.election_snapshot.specs.Snapshot.{Snapshot, has, stake_of}
use Rattle.weight_book.specs.Room.{WeightBook, HasRoom}
use Rattle.compact_solution.specs.Solution.{Entry, targets_of}
use Rattle.election_check.specs.Packed.{entries_fault, voters_in, listed_in, entry_edges, weights_of}

-- These entries have no fault, their voters are marked, their targets are stamped, each stamp is
-- one more than a voter of theirs, and their edges stand.
pub record AreTaken (snapshot : Snapshot) (entries : List Entry) (has_entry : List Bool) (stamps : List ℕ)
    (book : WeightBook) : Type 0 where
  pub sound : entries_fault snapshot [] entries ≡ None
  pub marked : (voter : ℕ) → slice_index_or has_entry voter false ≡ has (voters_in entries) voter
  pub stamped : (target : ℕ) → nat_lt 0 (slice_index_or stamps target 0) ≡ has (listed_in entries) target
  pub own : (target voter : ℕ) → slice_index_or stamps target 0 ≡ voter + 1
      → has (voters_in entries) voter ≡ true
  pub committee : book.plain.committee ≡ []
  pub edges : book.plain.edges ≡ (weights_of snapshot entries).edges
  pub room : HasRoom snapshot book

-- One entry more is taken: its voter is marked, its targets are stamped, and its edges stand.
pub record IsTaken (snapshot : Snapshot) (entry : Entry) (marks marks' : List Bool) (stamps stamps' : List ℕ)
    (book book' : WeightBook)
    : Type 0 where
  pub marked : marks' ≡ slice_set marks entry.voter true
  pub stamped : (target : ℕ) → slice_index_or stamps' target 0
      ≡ (if has (targets_of entry) target then entry.voter + 1 else slice_index_or stamps target 0)
  pub edges : book'.plain.edges ≡ book.plain.edges ++ entry_edges (stake_of snapshot entry.voter) entry
  pub members : book'.plain.committee ≡ book.plain.committee
