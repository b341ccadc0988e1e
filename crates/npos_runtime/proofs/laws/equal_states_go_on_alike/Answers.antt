use Rattle.npos_runtime.proofs.Kept.StateLemmas.{same_kept}
use Rattle.npos_runtime.proofs.Kept.LeftOutLemmas.{told_law}
use Rattle.npos_runtime.proofs.laws.equal_states_go_on_alike.Goals as goal

pub returns-clause-step : goal.returns-clause-step
returns-clause-step c = same_kept

pub returns-clause-blocks : goal.returns-clause-blocks
returns-clause-blocks c = told_law
