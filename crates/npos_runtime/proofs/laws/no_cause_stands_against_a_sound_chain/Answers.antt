use Rattle.npos_runtime.proofs.Kept.Causes.NoCauseLemmas.{no_cause}
use Rattle.npos_runtime.proofs.laws.no_cause_stands_against_a_sound_chain.Goals as goal

pub returns : goal.returns
returns c = no_cause
