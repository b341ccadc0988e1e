use Rattle.state_rules.proofs.StateLemmas.{state_sound, sound_state}
use Rattle.state_rules.proofs.laws.no_cause_stands_in_sound_states.Goals as goal

pub returns-clause-sound : goal.returns-clause-sound
returns-clause-sound c e = state_sound c.args.state.now e

pub returns-clause-complete : goal.returns-clause-complete
returns-clause-complete c is = sound_state c.args.state.now is
