use Rattle.npos_runtime.proofs.Histories.DeferredLawLemmas.{queued_law, applied_law, taken_in_all}
use Rattle.npos_runtime.proofs.laws.slashes_that_wait_take_what_is_due.Goals as goal

pub returns-clause-each : goal.returns-clause-each
returns-clause-each c = queued_law

pub returns-clause-applied : goal.returns-clause-applied
returns-clause-applied c = applied_law

pub returns-clause-together : goal.returns-clause-together
returns-clause-together c = taken_in_all
