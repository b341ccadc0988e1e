use Rattle.stake_pools.proofs.LawLemmas.{worth_law}
use Rattle.stake_pools.proofs.laws.worths_are_within_the_active_stake.Goals as goal

pub returns : goal.returns
returns c = worth_law
