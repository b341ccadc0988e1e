-- The check of a solution in linear time, after Cevallos and Stewart: what is left of the voters' stake
-- once each edge has paid for its member's seat, and whether some target outside could be elected with it.
use Rattle.std.specs.Prelude.{ℕ, ◌*◌, ◌/◌, ◌-◌, ◌<◌, min, IsFalse, List, length, filter, sum_by}
use Rattle.std.specs.List.{range_with_len}
use Rattle.npos_base.specs.declared.figures.Edge.{Edge}
use Rattle.election_snapshot.specs.Snapshot.{Snapshot, has, nominates, stake_of, threshold}
use Rattle.weight_book.specs.Weights.{Weights, edges_from, support, IsFeasible}

-- The edge's part of the price of its member's seat, where a seat costs at most `cap`. It is
-- rounded down, and 0 where the member has no support, since a quotient by 0 is 0.
abbrev pub pay : ℕ → List Edge → Edge → ℕ
pay cap edges edge = edge.amount * min cap (support edges edge.target) / support edges edge.target

abbrev pub paid : ℕ → List Edge → ℕ → ℕ
paid cap edges voter = sum_by (pay cap edges) (edges_from edges voter)

-- what a voter has left
abbrev pub slack : ℕ → Snapshot → List Edge → ℕ → ℕ
slack cap snapshot edges voter = stake_of snapshot voter - paid cap edges voter

abbrev pub nominators : Snapshot → ℕ → List ℕ
nominators snapshot target =
    filter (λ voter. nominates snapshot voter target) (range_with_len 0 (length snapshot.voters))

-- what all voters that nominate the target have left, whether they have edges or not
abbrev pub prescore : ℕ → Snapshot → List Edge → ℕ → ℕ
prescore cap snapshot edges target = sum_by (slack cap snapshot edges) (nominators snapshot target)

-- no target outside could pay for a seat with what its nominators have left
abbrev pub NoneOutweighs : Snapshot → Weights → Type 0
NoneOutweighs snapshot weights =
    (target : ℕ) → target < length snapshot.targets → IsFalse (has weights.committee target)
    → prescore (threshold snapshot) snapshot weights.edges target < threshold snapshot

pub record Passes (snapshot : Snapshot) (weights : Weights) : Type 0 where
  pub feasible : IsFeasible snapshot weights
  pub none_outweighs : NoneOutweighs snapshot weights
