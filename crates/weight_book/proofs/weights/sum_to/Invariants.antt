use Rattle.std.proofs.Common.{◌≡◌, ◌*◌, ◌^◌, ◌≤◌, take}
use Rattle.weight_book.specs.Weights.{support}
use Rattle.weight_book.proofs.weights.sum_to.Given as goal

-- what the edges so far give
abbrev pub invariant-loop-edge : goal.invariant-loop-edge
invariant-loop-edge l = (l.sum ≡ support (take l.edge-index l.edges) l.target) × (l.sum ≤ l.edge-index * 2 ^ 64)
