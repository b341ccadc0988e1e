use Rattle.std.proofs.Common.{◌≡◌, ◌*◌, ◌^◌, ◌≤◌, take}
use Rattle.weight_book.specs.Weights.{spent}
use Rattle.weight_book.proofs.weights.Weights.spent.Given as goal

-- what the edges so far give
abbrev pub invariant-loop-edge : goal.invariant-loop-edge
invariant-loop-edge l = (l.edge-items ≡ l.self.plain.edges) × (l.sum ≡ spent (take l.edge-index l.self.plain.edges) l.voter) × (l.sum ≤ l.edge-index * 2 ^ 64)
