use Rattle.npos_runtime.proofs.Histories.DepositsLemmas.{deposits_law}
use Rattle.npos_runtime.proofs.laws.deposits_are_settled.Goals as goal

pub returns : goal.returns
returns c = deposits_law
