use Rattle.state_rules.proofs.StateLemmas.{slashes_sound, sound_slashes}
use Rattle.state_rules.proofs.laws.no_cause_stands_for_sound_slashes.Goals as goal

pub returns-clause-sound : goal.returns-clause-sound
returns-clause-sound c e = slashes_sound c.args.state.now e

pub returns-clause-complete : goal.returns-clause-complete
returns-clause-complete c is = sound_slashes c.args.state.now is
