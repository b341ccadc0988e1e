use Rattle.npos_cli.proofs.EraLaws.{eras_kept}
use Rattle.npos_cli.proofs.laws.replays_keep_the_bounds_of_eras.Goals as goal

pub returns : goal.returns
returns c =
    eras_kept c.payouts_are_within_the_reward.ensures.together c.payouts_are_within_the_reward.ensures.each c.slashes_are_within_the_stake.ensures.each
    c.slashes_are_within_the_stake.ensures.taken c.each_round_is_decided_once.ensures c.slashes_are_within_the_stake.ensures.due
    c.slashes_that_wait_take_what_is_due.ensures.each c.slashes_that_wait_take_what_is_due.ensures.applied c.slashes_that_wait_take_what_is_due.ensures.together
