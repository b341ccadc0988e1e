use Rattle.weight_book.proofs.AveragingLemmas.{averaging}
use Rattle.weight_book.proofs.laws.weights_that_pass_are_proportional.Goals as goal

pub returns : goal.returns
returns c = averaging
