use Rattle.era_book.proofs.LawLemmas.{due_on_law}
use Rattle.era_book.proofs.laws.later_dues_are_within_the_exposures.Goals as goal

pub returns : goal.returns
returns c = due_on_law
