use Rattle.std.proofs.Common.{◌≤◌, All, take}
use Rattle.npos_base.specs.declared.figures.Edge.{Edge}
use Rattle.compact_solution.proofs.choosing.place_in.Given as goal

-- the edges so far have no higher target
abbrev pub invariant-loop-at : goal.invariant-loop-at
invariant-loop-at l = All (λ (other : Edge). other.target ≤ l.edge.target) (take l.at l.edges)
