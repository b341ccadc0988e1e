-- Weights: a committee, and how much of its stake each voter gives to which member.
use Rattle.std.specs.Prelude.{◌≡◌, ℕ, ◌<◌, ◌≤◌, IsTrue, nat_eq, List, [], length, All}
use Rattle.std.specs.List.{IsDistinct}
use Rattle.npos_base.specs.declared.figures.Edge.{Edge}
pub use Rattle.npos_base.specs.Edge.{same_pair, edges_from, edges_to, amount_sum, support}
use Rattle.election_snapshot.specs.Snapshot.{Snapshot, has, nominates, stake_of}

-- the members are positions of targets
pub record Weights : Type 0 where
  pub committee : List ℕ
  pub edges : List Edge

abbrev pub no_weights : Weights
no_weights = record { committee = []; edges = [] }

-- what a voter gives
abbrev pub spent : List Edge → ℕ → ℕ
spent edges voter = amount_sum (edges_from edges voter)

-- the members are different targets, and each voter gives to members that it nominates, once to each
pub record Follows (snapshot : Snapshot) (weights : Weights) : Type 0 where
  pub members_in_range : All (λ member. member < length snapshot.targets) weights.committee
  pub members_distinct : IsDistinct nat_eq weights.committee
  pub pairs_distinct : IsDistinct same_pair weights.edges
  pub voters_in_range : All (λ edge. edge.voter < length snapshot.voters) weights.edges
  pub to_members : All (λ edge. IsTrue (has weights.committee edge.target)) weights.edges
  pub nominated : All (λ edge. IsTrue (nominates snapshot edge.voter edge.target)) weights.edges

-- each seat is filled, and no voter spends more than its stake
pub record IsFeasible (snapshot : Snapshot) (weights : Weights) : Type 0 where
  pub follows : Follows snapshot weights
  pub seats_filled : length weights.committee ≡ snapshot.seats
  pub within_stakes : (voter : ℕ) → voter < length snapshot.voters
      → spent weights.edges voter ≤ stake_of snapshot voter
