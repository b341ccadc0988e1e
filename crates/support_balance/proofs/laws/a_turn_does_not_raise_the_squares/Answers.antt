use Rattle.support_balance.proofs.SquareLemmas.{no_higher_squares}
use Rattle.support_balance.proofs.laws.a_turn_does_not_raise_the_squares.Goals as goal

pub returns : goal.returns
returns c = no_higher_squares
