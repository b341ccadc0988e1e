-- Edges, the order in which they stand, by voter and then by target, and those of one voter or target.
use Rattle.std.specs.Prelude.{ℕ, ◌+◌, ◌*◌, Bool, ◌&&◌, nat_eq, List, filter, sum_by}
use Rattle.npos_base.specs.declared.figures.Edge.{Edge}

-- the edges lead from one voter to one target
abbrev pub same_pair : Edge → Edge → Bool
same_pair a b = nat_eq a.voter b.voter && nat_eq a.target b.target

-- the place of an edge in that order, since a target is a number of 16 bits
abbrev pub place_of : Edge → ℕ
place_of edge = edge.voter * 65536 + edge.target

-- the edges of a voter, in the order in which they stand
abbrev pub edges_from : List Edge → ℕ → List Edge
edges_from edges voter = filter (λ edge. nat_eq edge.voter voter) edges

-- the edges to a target
abbrev pub edges_to : List Edge → ℕ → List Edge
edges_to edges target = filter (λ edge. nat_eq edge.target target) edges

abbrev pub amount_sum : List Edge → ℕ
amount_sum edges = sum_by (λ edge. edge.amount) edges

-- what a target gets
abbrev pub support : List Edge → ℕ → ℕ
support edges target = amount_sum (edges_to edges target)
