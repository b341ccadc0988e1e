use Rattle.committee_answer.specs.Offers.{AreMoved, AreSmall}
use Rattle.committee_answer.specs.Search.{AreTables}
use Rattle.committee_answer.specs.Ways.{AreLists}
use Rattle.committee_answer.proofs.finding.Search.settle.Given as goal

abbrev pub invariant-rounds : goal.invariant-rounds
invariant-rounds l = AreTables l.snapshot l.self × AreSmall l.self.offers × AreMoved l.fn.self.offers l.self.offers × AreLists l.self.offers l.self.lists

abbrev pub decreases-rounds : goal.decreases-rounds
decreases-rounds l = l.self.offers.rest
