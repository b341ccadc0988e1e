use Rattle.era_book.proofs.LawLemmas.{in_order_law}
use Rattle.era_book.proofs.laws.eras_stay_in_order.Goals as goal

pub returns : goal.returns
returns c = in_order_law
