use Rattle.std.proofs.Common.{◌≡◌, map}
use Rattle.std.specs.List.{range_with_len}
use Rattle.weight_book.specs.Weights.{support}
use Rattle.npos_runtime.proofs.era.supports.Given as goal

-- the supports of the targets so far
abbrev pub invariant-loop-i : goal.invariant-loop-i
invariant-loop-i l = l.supports.items ≡ map (support l.elected.weights.plain.edges) (range_with_len 0 l.i)
