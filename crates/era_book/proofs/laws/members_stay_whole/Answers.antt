use Rattle.era_book.proofs.WholeLemmas.{whole_law}
use Rattle.era_book.proofs.BackedLemmas.{backed_law}
use Rattle.era_book.proofs.laws.members_stay_whole.Goals as goal

pub returns : goal.returns
returns c = record { whole = whole_law; backed = backed_law }
