use Rattle.npos_runtime.proofs.Kept.Restored.WholeLemmas.{restored}
use Rattle.npos_runtime.proofs.laws.a_state_without_a_fault_is_kept.Goals as goal

pub returns : goal.returns
returns c = restored
