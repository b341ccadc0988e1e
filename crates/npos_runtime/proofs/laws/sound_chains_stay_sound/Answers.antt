use Rattle.npos_runtime.proofs.Kept.Sound.ChainLemmas.{sound_start, keeps_sound, stays_sound}
use Rattle.npos_runtime.proofs.laws.sound_chains_stay_sound.Goals as goal

pub returns-clause-start : goal.returns-clause-start
returns-clause-start c = sound_start

pub returns-clause-step : goal.returns-clause-step
returns-clause-step c =
    let parts = c.sound_parts_stay_sound.ensures in
    keeps_sound parts.books parts.roles parts.eras parts.round parts.submissions parts.waiting parts.slashes

pub returns-clause-blocks : goal.returns-clause-blocks
returns-clause-blocks c =
    let parts = c.sound_parts_stay_sound.ensures in
    stays_sound (keeps_sound parts.books parts.roles parts.eras parts.round parts.submissions parts.waiting parts.slashes)
