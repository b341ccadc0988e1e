use Rattle.npos_runtime.proofs.Kept.SavableLemmas.{no_state_fault}
use Rattle.npos_runtime.proofs.laws.a_saved_state_has_no_fault.Goals as goal

pub returns : goal.returns
returns c = no_state_fault
