use Rattle.era_book.proofs.LawLemmas.{due_law}
use Rattle.era_book.proofs.laws.dues_are_within_the_exposures.Goals as goal

pub returns : goal.returns
returns c = due_law
