use Rattle.era_book.proofs.LineLemmas.{payout_within}
use Rattle.era_book.proofs.laws.a_payout_is_within_its_value.Goals as goal

pub returns : goal.returns
returns c = payout_within
