use Rattle.npos_cli.proofs.ResumedLaws.{none_crowded_on}
use Rattle.npos_cli.proofs.laws.resumed_replays_crowd_nothing_out.Goals as goal

pub returns : goal.returns
returns c = none_crowded_on c.a_state_without_a_fault_is_kept.ensures c.nothing_valid_is_crowded_out_for_free.ensures
