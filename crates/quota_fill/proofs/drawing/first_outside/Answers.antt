use Rattle.std.proofs.Common.{rules}
use Rattle.quota_fill.proofs.OutsideLemmas.{none_outside_more}
use Rattle.quota_fill.proofs.drawing.first_outside.Goals as goal

pub loop-target-preserved : goal.loop-target-preserved
loop-target-preserved c = none_outside_more c.args.is_picked.now c.loop-target.target c.loop-target.invariant (search rules)
