use Rattle.weight_book.proofs.AveragingLemmas.{answered}
use Rattle.weight_book.proofs.laws.answered_committees_are_proportional.Goals as goal

pub returns : goal.returns
returns c = answered
