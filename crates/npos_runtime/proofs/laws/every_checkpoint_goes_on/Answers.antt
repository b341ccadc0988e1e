use Rattle.npos_runtime.proofs.Kept.FormLemmas.{checkpoint}
use Rattle.npos_runtime.proofs.laws.every_checkpoint_goes_on.Goals as goal

pub returns : goal.returns
returns c = checkpoint
