-- What voters give to targets, as edges.
use Rattle.std.specs.Prelude.{ℕ, nat_lt, List, length, map, filter, flat_map}
use Rattle.std.specs.List.{range_with_len}
use Rattle.npos_base.specs.declared.figures.Edge.{Edge}
use Rattle.election_snapshot.specs.Snapshot.{Snapshot}

-- what a voter gives to a target, as an edge
abbrev pub edge_along : (ℕ → ℕ → ℕ) → ℕ → ℕ → Edge
edge_along given voter target =
    record { voter = voter; target = target; amount = given voter target }

-- what each voter gives to each target, by voter and then by target, where it is more than nothing
abbrev pub edges_given : Snapshot → (ℕ → ℕ → ℕ) → List Edge
edges_given snapshot given = filter (λ edge. nat_lt 0 edge.amount)
    (flat_map (λ voter. map (edge_along given voter) (range_with_len 0 (length snapshot.targets)))
    (range_with_len 0 (length snapshot.voters)))
