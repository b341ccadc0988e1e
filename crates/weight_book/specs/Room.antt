-- Weights with room made beforehand.
use Rattle.std.specs.Prelude.{◌≡◌, ℕ, ◌+◌, ◌≤◌, length, sum_by}
use Rattle.election_snapshot.specs.Snapshot.{Snapshot}
use Rattle.weight_book.specs.Weights.{Weights}

-- the weights, how many more members and edges can be appended before memory is asked for, and for how
-- many targets the support is kept
pub record WeightBook : Type 0 where
  pub plain : Weights
  pub member_spare : ℕ
  pub edge_spare : ℕ
  pub support_count : ℕ

abbrev pub member_room : WeightBook → ℕ
member_room book = length book.plain.committee + book.member_spare

abbrev pub edge_room : WeightBook → ℕ
edge_room book = length book.plain.edges + book.edge_spare

-- how many nominations there are
abbrev pub vote_count : Snapshot → ℕ
vote_count snapshot = sum_by (λ voter. length voter.votes) snapshot.voters

-- room for each target as a member, and for an edge along each nomination
pub record HasRoom (snapshot : Snapshot) (book : WeightBook) : Type 0 where
  pub members : length snapshot.targets ≤ member_room book
  pub edges : vote_count snapshot ≤ edge_room book

-- no room but that, and a support for each target
pub record HasNoMoreRoom (snapshot : Snapshot) (book : WeightBook) : Type 0 where
  pub members : member_room book ≤ length snapshot.targets
  pub edges : edge_room book ≤ vote_count snapshot
  pub supports : book.support_count ≡ length snapshot.targets

-- no room is lost, and supports are kept for the same targets
pub record KeepsRoom (old new : WeightBook) : Type 0 where
  pub members : member_room old ≤ member_room new
  pub edges : edge_room old ≤ edge_room new
  pub supports : new.support_count ≡ old.support_count
