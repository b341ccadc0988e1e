use Rattle.std.proofs.Common.{◌≤◌}
use Rattle.committee_answer.specs.Offers.{AreMoved, AreSmall}
use Rattle.committee_answer.specs.Ways.{AreLists}
use Rattle.committee_answer.proofs.moving.move_in.Given as goal

abbrev pub invariant-edges : goal.invariant-edges
invariant-edges l = AreSmall l.offers × AreMoved l.fn.offers l.offers × (l.offers.rest ≤ l.fn.offers.rest) × AreLists l.offers l.lists
