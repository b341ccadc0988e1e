use Rattle.npos_runtime.proofs.Histories.EraLawLemmas.{dues_on_law}
use Rattle.npos_runtime.proofs.Histories.OnceLemmas.{once_on_law}
use Rattle.npos_runtime.proofs.laws.dues_go_on.Goals as goal

pub returns-clause-once : goal.returns-clause-once
returns-clause-once c = once_on_law

pub returns-clause-due : goal.returns-clause-due
returns-clause-due c = dues_on_law c.a_packed_yes_is_a_plain_yes.ensures c.a_plain_yes_is_passing.ensures c.every_fill_passes.ensures
