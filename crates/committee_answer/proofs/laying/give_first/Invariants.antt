use Rattle.committee_answer.specs.Offers.{AreMoved, AreSmall}
use Rattle.committee_answer.proofs.laying.give_first.Given as goal

abbrev pub invariant-loop-place : goal.invariant-loop-place
invariant-loop-place l = AreSmall l.offers × AreMoved l.fn.offers l.offers
