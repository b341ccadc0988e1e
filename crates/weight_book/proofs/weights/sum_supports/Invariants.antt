use Rattle.std.proofs.Common.{◌≡◌, length, take}
use Rattle.weight_book.specs.Kept.{AreSupports}
use Rattle.weight_book.proofs.weights.sum_supports.Given as goal

-- what the edges so far give
abbrev pub invariant-loop-edge : goal.invariant-loop-edge
invariant-loop-edge l = AreSupports (take l.edge-index l.edges) l.supports × (length l.supports ≡ length l.fn.supports)
