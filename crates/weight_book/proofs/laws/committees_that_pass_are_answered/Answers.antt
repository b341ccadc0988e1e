use Rattle.weight_book.proofs.AveragingLemmas.{passing}
use Rattle.weight_book.proofs.laws.committees_that_pass_are_answered.Goals as goal

pub returns : goal.returns
returns c = passing
