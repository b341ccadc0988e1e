use Rattle.npos_runtime.proofs.Kept.AlikeLemmas.{step_alike, blocks_alike}
use Rattle.npos_runtime.proofs.laws.chains_that_are_alike_go_on_alike.Goals as goal

pub returns-clause-step : goal.returns-clause-step
returns-clause-step c = step_alike

pub returns-clause-blocks : goal.returns-clause-blocks
returns-clause-blocks c = blocks_alike
