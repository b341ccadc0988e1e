use Rattle.std.proofs.Common.{arith}
use Rattle.compact_solution.proofs.GroupLemmas.{over_plain, within_plain}
use Rattle.compact_solution.proofs.listing.fits_plain.Goals as goal

pub returns-then-len-gt-PLAIN_GROUPS : goal.returns-then-len-gt-PLAIN_GROUPS
returns-then-len-gt-PLAIN_GROUPS c =
    over_plain c.args.kept.now c.loop-edges.edges-index c.edges-item.result c.loop-edges-test.true c.edges-item.is
    (omega (arith, c.len.ensures, c.if-len-gt-PLAIN_GROUPS.true))

pub loop-edges-preserved : goal.loop-edges-preserved
loop-edges-preserved c =
    within_plain c.args.kept.now c.loop-edges.edges-index c.edges-item.result c.loop-edges-test.true c.edges-item.is
    (omega (arith, c.len.ensures, c.if-len-gt-PLAIN_GROUPS.false)) c.loop-edges.invariant
