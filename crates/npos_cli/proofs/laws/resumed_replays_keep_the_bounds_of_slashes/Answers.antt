use Rattle.npos_cli.proofs.ResumedLaws.{eras_go_on}
use Rattle.npos_cli.proofs.laws.resumed_replays_keep_the_bounds_of_slashes.Goals as goal

pub returns : goal.returns
returns c =
    eras_go_on c.a_state_without_a_fault_is_kept.ensures c.dues_go_on.ensures.once c.payouts_go_on.ensures.together
    c.payouts_go_on.ensures.each c.dues_go_on.ensures.due c.slashes_are_within_the_stake.ensures.each
    c.slashes_that_wait_take_what_is_due.ensures.each c.slashes_that_wait_take_what_is_due.ensures.applied
    c.slashes_that_wait_take_what_is_due.ensures.together
