use Rattle.npos_runtime.proofs.Histories.DepositsLemmas as of_deposits
use Rattle.npos_runtime.proofs.laws.deposits_go_on.Goals as goal

pub returns : goal.returns
returns c = of_deposits.deposits_go_on
