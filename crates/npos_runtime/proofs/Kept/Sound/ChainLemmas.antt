-- A sound chain stays sound, block by block.
use Rattle.std.proofs.Common.{◌≡◌, ◌+◌, ◌^◌, ◌≤◌, List, [], ◌∷◌, length, sym, subst, arith}
use Rattle.block_wire.specs.declared.block.Block.{Block}
use Rattle.npos_runtime.specs.declared.chain.Chain.{Chain}
use Rattle.npos_runtime.specs.Genesis.{genesis_chain}
use Rattle.npos_runtime.specs.Step.{after_blocks}
use Rattle.npos_runtime.specs.Live.{IsReady, IsBetweenBlocks}
use Rattle.npos_runtime.specs.Kept.State.{IsTold}
use Rattle.npos_runtime.specs.Kept.Sound.{IsSoundChain}
use Rattle.npos_runtime.specs.Kept.Soundness.{CanStep, AreNext, after_block, BooksStaySound, RolesStaySound, ErasStaySound, RoundStaysSound}
use Rattle.npos_runtime.specs.Kept.Soundness.{SubmissionsStaySound, WaitingStaysSound, SlashesStaySound, StartsSound, KeepsSoundLaw, StaysSoundLaw}
use Rattle.npos_runtime.proofs.Rules.BeginLemmas.{ready_begun}
use Rattle.npos_runtime.proofs.Rules.LiveLemmas.{due_step}
use Rattle.npos_runtime.proofs.Histories.TimeLemmas.{between_step}
use Rattle.npos_runtime.proofs.Kept.LeftOutLemmas.{faithful, faithful_step, told_between, told_after}
use Rattle.npos_runtime.proofs.Kept.Sound.BooksLemmas.{books_start}
use Rattle.npos_runtime.proofs.Kept.Sound.RolesLemmas.{roles_start}
use Rattle.npos_runtime.proofs.Kept.Sound.ErasLemmas.{eras_start, slashes_start}
use Rattle.npos_runtime.proofs.Kept.Sound.PollLemmas.{round_starts, waiting_starts}
use Rattle.npos_runtime.proofs.Kept.Sound.SubmissionLemmas.{submissions_start}

pub sound_start : StartsSound
sound_start genesis in_range none = record {
  books = books_start genesis none;
  roles = roles_start genesis;
  eras = eras_start genesis;
  round = round_starts genesis;
  queue = submissions_start genesis;
  waiting = waiting_starts genesis;
  slashes = slashes_start genesis;
}

-- the parts together
pub keeps_sound : BooksStaySound → RolesStaySound → ErasStaySound → RoundStaysSound → SubmissionsStaySound
    → WaitingStaysSound → SlashesStaySound → KeepsSoundLaw
keeps_sound books roles eras round submissions waiting slashes chain block can = record {
  books = books chain block can;
  roles = roles chain block can;
  eras = eras chain block can;
  round = round chain block can;
  queue = submissions chain block can;
  waiting = waiting chain block can;
  slashes = slashes chain block can;
}

-- the counts of a sound chain are those that its blocks could make
pub ready_sound : (chain : Chain) → IsBetweenBlocks chain → IsSoundChain chain → IsReady chain
ready_sound chain between sound = record {
  between = between;
  numbered = omega (arith, sound.queue.few);
  slash_numbered = omega (arith, sound.slashes.few);
}

module _ (keeps : KeepsSoundLaw) where
  sound_blocks : (chain : Chain) (blocks : List Block) → IsReady chain → IsTold chain → IsSoundChain chain
      → AreNext chain.due blocks → chain.due + length blocks ≤ 2 ^ 32 → IsSoundChain (after_blocks chain blocks)
  sound_blocks chain [] ready told sound next fit = sound
  sound_blocks chain (block ∷ more) ready told sound next fit =
      let can : CanStep chain block = record { ready = ready; told = told; sound = sound; in_range = next.0; due = next.1 } in
      let new : Chain = after_block chain block in
      let still : IsSoundChain new = keeps chain block can in
      let between : IsBetweenBlocks new = between_step chain block ready.between (omega (arith, fit)) in
      let due : new.due ≡ chain.due + 1 = due_step chain block in
      sound_blocks new more (ready_sound new between still)
      (told_between new between (faithful_step chain block (faithful chain told))) still
      (subst (λ number. AreNext number more) (sym due) next.2) (omega (arith, fit, due))

  pub stays_sound : StaysSoundLaw
  stays_sound genesis blocks in_range history next =
      let start = ready_begun genesis history.faultless in
      sound_blocks (genesis_chain genesis) blocks start
      (told_after genesis [] (record { faultless = history.faultless; fit = omega (arith, history.fit) }))
      (sound_start genesis in_range history.faultless) next history.fit
