use Rattle.stake_pools.proofs.LawLemmas.{paid_law}
use Rattle.stake_pools.proofs.laws.a_payment_is_within_its_part.Goals as goal

pub returns : goal.returns
returns c = paid_law
