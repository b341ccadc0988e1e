use Rattle.npos_cli.proofs.FairLaws.{fair}
use Rattle.npos_cli.proofs.laws.pools_are_fair.Goals as goal

pub returns : goal.returns
returns c =
    fair c.every_pool_starts_sound.ensures c.every_list_of_items_leaves_a_pool_sound.ensures c.worths_are_within_the_active_stake.ensures c.nobody_is_diluted.ensures.join
    c.nobody_is_diluted.ensures.redeem c.nobody_is_diluted.ensures.undiluted c.a_payment_is_within_its_part.ensures
