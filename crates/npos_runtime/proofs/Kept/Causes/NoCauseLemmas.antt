-- No cause stands against the state that a sound chain keeps: its parts together.
use Rattle.state_rules.specs.Sound as state
use Rattle.state_rules.proofs.StateLemmas as state_rules
use Rattle.npos_runtime.specs.declared.chain.Chain.{Chain}
use Rattle.npos_runtime.specs.Kept.State.{kept, IsTold}
use Rattle.npos_runtime.specs.Live.{IsReady}
use Rattle.npos_runtime.specs.Kept.Sound.{IsSoundChain}
use Rattle.npos_runtime.specs.Kept.Soundness.{NoCauseLaw}
use Rattle.npos_runtime.proofs.Kept.Causes.RowLemmas.{sound_book, sound_releases, sound_held}
use Rattle.npos_runtime.proofs.Kept.Causes.RoleLemmas.{sound_roles}
use Rattle.npos_runtime.proofs.Kept.Causes.EraLemmas.{sound_eras}
use Rattle.npos_runtime.proofs.Kept.Causes.QueueLemmas.{sound_next_submission, sound_queue}
use Rattle.npos_runtime.proofs.Kept.Causes.PollLemmas.{sound_round, sound_waiting}
use Rattle.npos_runtime.proofs.Kept.Causes.SlashLemmas.{sound_next_slash, sound_slashes}

-- the state is sound but for its slashes
pub sound_kept : (chain : Chain) → IsReady chain → IsTold chain → IsSoundChain chain → state.IsSoundState (kept chain)
sound_kept chain ready told sound = record {
  book = sound_book chain ready told sound;
  releases = sound_releases chain ready told sound;
  roles = sound_roles chain ready told sound;
  eras = sound_eras chain ready told sound;
  round = sound_round chain ready told sound;
  next_submission = sound_next_submission chain ready told sound;
  queue = sound_queue chain ready told sound;
  held = sound_held chain ready told sound;
  waiting = sound_waiting chain ready told sound;
}

-- and so are these
pub slashes_kept : (chain : Chain) → IsReady chain → IsTold chain → IsSoundChain chain → state.HasSoundSlashes (kept chain)
slashes_kept chain ready told sound = record {
  next_slash = sound_next_slash chain ready told sound;
  slashes = sound_slashes chain ready told sound;
}

pub no_cause : NoCauseLaw
no_cause chain ready told sound = (
  state_rules.sound_state (kept chain) (sound_kept chain ready told sound),
  state_rules.sound_slashes (kept chain) (slashes_kept chain ready told sound),
)
