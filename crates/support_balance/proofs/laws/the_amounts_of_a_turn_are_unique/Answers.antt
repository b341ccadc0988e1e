use Rattle.support_balance.proofs.UniqueLemmas.{unique}
use Rattle.support_balance.proofs.laws.the_amounts_of_a_turn_are_unique.Goals as goal

pub returns : goal.returns
returns c = unique
