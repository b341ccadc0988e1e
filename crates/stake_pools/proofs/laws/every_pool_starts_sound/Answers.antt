use Rattle.stake_pools.proofs.StartLemmas.{start_law}
use Rattle.stake_pools.proofs.laws.every_pool_starts_sound.Goals as goal

pub returns : goal.returns
returns c = start_law
