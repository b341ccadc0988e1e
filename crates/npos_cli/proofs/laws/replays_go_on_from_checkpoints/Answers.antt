use Rattle.npos_cli.proofs.CheckpointLaws.{goes_on}
use Rattle.npos_cli.proofs.laws.replays_go_on_from_checkpoints.Goals as goal

pub returns : goal.returns
returns c =
    goes_on c.chains_can_be_saved.ensures.start c.chains_can_be_saved.ensures.step c.a_saved_state_has_no_fault.ensures
    c.a_state_without_a_fault_is_kept.ensures c.equal_states_go_on_alike.ensures.step
