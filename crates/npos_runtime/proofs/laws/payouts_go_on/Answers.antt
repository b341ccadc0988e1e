use Rattle.npos_runtime.proofs.Histories.EraLawLemmas.{told_on_law, paid_on_law}
use Rattle.npos_runtime.proofs.laws.payouts_go_on.Goals as goal

pub returns-clause-each : goal.returns-clause-each
returns-clause-each c = told_on_law

pub returns-clause-together : goal.returns-clause-together
returns-clause-together c = paid_on_law
