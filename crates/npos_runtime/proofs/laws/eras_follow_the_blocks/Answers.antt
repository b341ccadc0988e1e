use Rattle.npos_runtime.proofs.Histories.EraLawLemmas.{history_law}
use Rattle.npos_runtime.proofs.laws.eras_follow_the_blocks.Goals as goal

pub returns : goal.returns
returns c = history_law
