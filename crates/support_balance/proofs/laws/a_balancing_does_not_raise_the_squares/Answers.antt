use Rattle.support_balance.proofs.FallLemmas.{no_higher_balance}
use Rattle.support_balance.proofs.laws.a_balancing_does_not_raise_the_squares.Goals as goal

pub returns : goal.returns
returns c = no_higher_balance
