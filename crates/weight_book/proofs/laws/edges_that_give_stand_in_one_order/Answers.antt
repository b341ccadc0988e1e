use Rattle.weight_book.proofs.OneOrderLemmas.{one_order}
use Rattle.weight_book.proofs.laws.edges_that_give_stand_in_one_order.Goals as goal

pub returns : goal.returns
returns c = one_order
