use Rattle.npos_runtime.proofs.Histories.EraLawLemmas.{slash_law, taken_law, dues_law}
use Rattle.npos_runtime.proofs.laws.slashes_are_within_the_stake.Goals as goal

pub returns-clause-each : goal.returns-clause-each
returns-clause-each c = slash_law

pub returns-clause-taken : goal.returns-clause-taken
returns-clause-taken c = taken_law

pub returns-clause-due : goal.returns-clause-due
returns-clause-due c = dues_law c.a_packed_yes_is_a_plain_yes.ensures c.a_plain_yes_is_passing.ensures c.every_fill_passes.ensures
