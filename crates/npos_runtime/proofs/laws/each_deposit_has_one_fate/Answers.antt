use Rattle.npos_runtime.proofs.Histories.FateLemmas.{one_fate, settled_law}
use Rattle.npos_runtime.proofs.laws.each_deposit_has_one_fate.Goals as goal

pub returns-clause-from_genesis : goal.returns-clause-from_genesis
returns-clause-from_genesis c = λ genesis blocks number history from. one_fate number genesis blocks history from

pub returns-clause-from_any : goal.returns-clause-from_any
returns-clause-from_any c = settled_law
