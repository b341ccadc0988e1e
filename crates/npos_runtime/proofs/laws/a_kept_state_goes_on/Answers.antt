use Rattle.npos_runtime.proofs.Kept.LeftOutLemmas.{resume}
use Rattle.npos_runtime.proofs.laws.a_kept_state_goes_on.Goals as goal

pub returns : goal.returns
returns c = resume
