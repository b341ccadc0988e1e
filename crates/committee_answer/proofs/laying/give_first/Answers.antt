use Rattle.committee_answer.proofs.OfferLemmas.{moved_none, moved_then}
use Rattle.committee_answer.proofs.laying.give_first.Goals as goal

pub loop-place-init : goal.loop-place-init
loop-place-init c = (c.requires, moved_none c.args.offers.now)

pub loop-place-preserved : goal.loop-place-preserved
loop-place-preserved c = (c.give_all.ensures.small, moved_then _ _ _ c.loop-place.invariant.1 c.give_all.ensures.moved)
