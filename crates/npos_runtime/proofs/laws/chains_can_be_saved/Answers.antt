use Rattle.npos_runtime.proofs.Kept.SavableLemmas.{savable_start, savable_step}
use Rattle.npos_runtime.proofs.laws.chains_can_be_saved.Goals as goal

pub returns-clause-start : goal.returns-clause-start
returns-clause-start c = savable_start c.sound_chains_stay_sound.ensures.start

pub returns-clause-step : goal.returns-clause-step
returns-clause-step c = savable_step c.sound_chains_stay_sound.ensures.step
