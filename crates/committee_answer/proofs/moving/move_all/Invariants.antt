use Rattle.std.proofs.Common.{◌≤◌}
use Rattle.committee_answer.specs.Offers.{AreMoved, AreSmall}
use Rattle.committee_answer.specs.Ways.{AreLists}
use Rattle.committee_answer.proofs.moving.move_all.Given as goal

abbrev pub invariant-loop-voter : goal.invariant-loop-voter
invariant-loop-voter l = AreSmall l.offers × AreMoved l.fn.offers l.offers × (l.offers.rest ≤ l.fn.offers.rest) × AreLists l.offers l.lists
