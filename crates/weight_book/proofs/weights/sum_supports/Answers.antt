use Rattle.std.proofs.Common.{rules, ◌∙◌}
use Rattle.weight_book.proofs.KeptLemmas.{supports_more}
use Rattle.weight_book.proofs.weights.sum_supports.Goals as goal

pub loop-edge-preserved : goal.loop-edge-preserved
loop-edge-preserved c = (
  supports_more c.args.edges.now c.loop-edge.edge-index _ _ _ c.loop-edge-test.true c.loop-edge.invariant.0 (search rules)
      c.raise_support.ensures.raised c.raise_support.ensures.count,
  c.raise_support.ensures.count ∙ c.loop-edge.invariant.1,
)
