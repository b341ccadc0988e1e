use Rattle.npos_cli.proofs.CheckpointLaws.{stays_whole, goes_on_whole, each_goes_on}
use Rattle.npos_cli.proofs.laws.whole_streams_stop_and_go_on.Goals as goal

pub returns-clause-stop : goal.returns-clause-stop
returns-clause-stop c = stays_whole

pub returns-clause-go_on : goal.returns-clause-go_on
returns-clause-go_on c =
    goes_on_whole c.chains_can_be_saved.ensures.start c.chains_can_be_saved.ensures.step c.a_saved_state_has_no_fault.ensures
    c.a_state_without_a_fault_is_kept.ensures c.equal_states_go_on_alike.ensures.step

pub returns-clause-each : goal.returns-clause-each
returns-clause-each c = each_goes_on c.a_saved_state_has_no_fault.ensures c.a_state_without_a_fault_is_kept.ensures
