use Rattle.npos_cli.proofs.CheckpointLaws.{writes_checkpoints}
use Rattle.npos_cli.proofs.laws.replays_write_checkpoints.Goals as goal

pub returns : goal.returns
returns c = writes_checkpoints
