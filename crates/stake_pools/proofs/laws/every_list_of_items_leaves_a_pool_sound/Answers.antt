use Rattle.stake_pools.proofs.LawLemmas.{kept_law}
use Rattle.stake_pools.proofs.laws.every_list_of_items_leaves_a_pool_sound.Goals as goal

pub returns : goal.returns
returns c = kept_law
