use Rattle.weight_book.proofs.AveragingLemmas.{witnessed}
use Rattle.weight_book.proofs.laws.committees_with_witnesses_are_answered.Goals as goal

pub returns : goal.returns
returns c = witnessed
