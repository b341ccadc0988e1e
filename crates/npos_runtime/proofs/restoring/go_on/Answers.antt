use Rattle.npos_runtime.proofs.Kept.Remade.StateLemmas.{sound_terms}
use Rattle.npos_runtime.proofs.restoring.go_on.Goals as goal

pub check_causes-requires : goal.check_causes-requires
check_causes-requires c = sound_terms c.args.state c.requires.due c.requires.sound

pub waiting_of-requires : goal.waiting_of-requires
waiting_of-requires c = (c.no_cause_stands_in_sound_states.ensures.sound c.in_ok-check_causes.ensures.ok).waiting

pub check_slashes-requires : goal.check_slashes-requires
check_slashes-requires c = sound_terms c.args.state c.requires.due c.requires.sound

pub remake_state-requires-clause-terms : goal.remake_state-requires-clause-terms
remake_state-requires-clause-terms c = sound_terms c.args.state c.requires.due c.requires.sound

pub remake_state-requires-clause-sound : goal.remake_state-requires-clause-sound
remake_state-requires-clause-sound c = c.no_cause_stands_in_sound_states.ensures.sound c.in_ok-check_causes.ensures.ok

pub remake_state-requires-clause-slashes : goal.remake_state-requires-clause-slashes
remake_state-requires-clause-slashes c = c.no_cause_stands_for_sound_slashes.ensures.sound c.in_ok-check_slashes.ensures.ok

pub remake_state-requires-clause-thresholds : goal.remake_state-requires-clause-thresholds
remake_state-requires-clause-thresholds c = c.requires.thresholds

pub remake_state-requires-clause-few : goal.remake_state-requires-clause-few
remake_state-requires-clause-few c = c.requires.few

pub remake_state-requires-clause-elected : goal.remake_state-requires-clause-elected
remake_state-requires-clause-elected c = c.in_ok-waiting.ensures.ok
