-- A committee whose voters hand out their stake.
use Rattle.std.specs.Prelude.{◌≡◌, ℕ, ◌<◌, Bool, false, nat_eq, nat_lt, List, length, filter, All, slice_index_or}
use Rattle.std.specs.List.{IsDistinct}
use Rattle.npos_base.specs.declared.figures.Edge.{Edge}
use Rattle.election_snapshot.specs.Snapshot.{Snapshot, IsWellFormed, has}
use Rattle.weight_book.specs.Weights.{Weights}
use Rattle.support_balance.specs.Laid.{Covers, AreKept}

-- the weights have an edge for each member that a voter nominates, be its amount 0
pub record Backing : Type 0 where
  pub snapshot : Snapshot
  pub weights : Weights

-- the edges whose amounts are above 0
abbrev pub above_zero : List Edge → List Edge
above_zero edges = filter (λ edge. nat_lt 0 edge.amount) edges

-- how a backing is kept
pub record IsKept (snapshot : Snapshot) (members : List ℕ) (is_member : List Bool) (edges : List Edge)
    (supports : List ℕ) : Type 0 where
  pub formed : IsWellFormed snapshot
  pub in_range : All (λ member. member < length snapshot.targets) members
  pub distinct : IsDistinct nat_eq members
  pub marks : (target : ℕ) → slice_index_or is_member target false ≡ has members target
  pub marks_count : length is_member ≡ length snapshot.targets
  pub covers : Covers snapshot members edges
  pub voters_in_range : All (λ edge. edge.voter < length snapshot.voters) edges
  pub kept : AreKept supports edges
  pub count : length supports ≡ length snapshot.targets
