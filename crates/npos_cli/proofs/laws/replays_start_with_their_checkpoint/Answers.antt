use Rattle.npos_cli.proofs.CheckpointLaws.{starts_with_checkpoint}
use Rattle.npos_cli.proofs.laws.replays_start_with_their_checkpoint.Goals as goal

pub returns : goal.returns
returns c = starts_with_checkpoint c.a_state_without_a_fault_is_kept.ensures
