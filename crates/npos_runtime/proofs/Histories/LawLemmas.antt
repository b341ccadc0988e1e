-- The elections that blocks seat, and what is held after them.
use Rattle.std.proofs.Common.{◌≡◌, ℕ, ◌+◌, ◌≤◌, ◌^◌, Bool, true, false, ◌==◌, All, Contains, List, [], ◌∷◌, ◌++◌, length, Option, Some, None, refl, sym, ◌∙◌, ap, subst, arith, if◌then◌else◌}
use Rattle.std.proofs.lemmas.Bool.Decides.{nat_tests}
use Rattle.std.proofs.lemmas.List.{append-nil}
use Rattle.std.proofs.lemmas.List.Elements.{All-nil, All-cons, All-append, Contains-append_left, Contains-append_right}
use Rattle.block_wire.specs.declared.genesis.Params.{Params}
use Rattle.block_wire.specs.declared.call.Call.{Call}
use Rattle.block_wire.specs.declared.block.Block.{Block}
use Rattle.weight_book.specs.Proportional.{AveragingLaw}
use Rattle.weight_book.specs.Answered.{PassingLaw}
use Rattle.election_check.specs.Laws.{PackedYesIsAccepting, PlainYesIsPassing}
use Rattle.quota_fill.specs.Laws.{EveryFillPasses}
use Rattle.npos_runtime.specs.declared.chain.Chain.{Chain}
use Rattle.block_receipts.specs.declared.line.Line.{Line}
use Rattle.block_receipts.specs.declared.line.Line.TheVariants as lines
use Rattle.block_receipts.specs.declared.refusal.Refusal.{Refusal}
use Rattle.npos_runtime.specs.declared.round.Round.{Round}
use Rattle.npos_runtime.specs.declared.round.Round.TheVariants as rounds
use Rattle.chain_params.specs.Rules.{era_of, is_decision, place_of, begun_round}
use Rattle.npos_runtime.specs.Rules.Rounds.{round_after, round_phase}
use Rattle.round_decision.specs.Decision.{others, decided_weights}
use Rattle.npos_runtime.specs.Rules.Deciding.{decision_of, decision_phase}
use Rattle.npos_runtime.specs.Rules.Outcome.{Election, Outcome, quiet}
use Rattle.npos_runtime.specs.Rules.CallRule.{CallRule}
use Rattle.npos_runtime.specs.Rules.Calls.{rule_for}
use Rattle.npos_runtime.specs.Step.{in_turn, phases, before_calls, era_phase, call_after, call_outcome, calls_outcome, step, seated_by}
use Rattle.npos_runtime.specs.Live.{IsLive, IsSoundRound}
use Rattle.chain_params.specs.Faults.{AreSound}
use Rattle.npos_runtime.specs.Histories.Laws.{IsSeatedSoundly, SoundStepLaw, SeatedSoundLaw, SeatsLaw, HeldLaw}
use Rattle.round_decision.proofs.VerdictLemmas.{decided_passes}
use Rattle.chain_params.proofs.PhaseLemmas.{phases_sound}
use Rattle.npos_runtime.proofs.Rules.PhaseTable.{live_era, live_round}
use Rattle.npos_runtime.proofs.Rules.LiveLemmas.{live_step, live_blocks, due_step, fixed_calls}

-- ## Calls seat nobody

seats_after : (due : Option Refusal) (index : ℕ) (rule : CallRule) (chain : Chain) → (call_after due index rule chain).seated ≡ []
seats_after None index rule chain = refl
seats_after (Some refusal) index rule chain = refl

seats_calls : (index : ℕ) (calls : List Call) (chain : Chain) → (calls_outcome index calls chain).seated ≡ []
seats_calls index [] chain = refl
seats_calls index (call ∷ calls) chain =
    let next : Chain = (call_outcome index call chain).state in
    ap (λ (es : List Election). es ++ (calls_outcome (index + 1) calls next).seated)
    (seats_after (rule_for chain call).refusal index (rule_for chain call) chain)
    ∙ seats_calls (index + 1) calls next

-- what the step seats is what its decision seats
abbrev pub undecided : Chain → Chain
undecided chain = (round_phase (era_phase chain).state).state

pub seats_step : (chain : Chain) (block : Block) → (step chain block).seated ≡ (decision_phase (undecided chain)).seated
seats_step chain block =
    let decision : List Election = (decision_phase (undecided chain)).seated in
    let calls : List Election = (calls_outcome 0 block.calls (before_calls chain)).seated in
    (λ i. append-nil decision i ++ append-nil calls i)
    ∙ ap (λ (es : List Election). decision ++ es) (seats_calls 0 block.calls (before_calls chain))
    ∙ append-nil decision

-- ## What is told

-- what the phases of a block tell stands among its lines
pub told_before : (chain : Chain) (block : Block) (line : Line) → Contains (in_turn phases chain).lines line
    → Contains (step chain block).lines line
told_before chain block line within =
    let calls : List Line = (calls_outcome 0 block.calls (before_calls chain)).lines in
    Contains-append_right (lines.Block block.number ∷ []) ((in_turn phases chain).lines ++ (calls ++ [])) line
    (Contains-append_left (in_turn phases chain).lines (calls ++ []) line within)

pub told_first : (part : Chain → Outcome) (more : List (Chain → Outcome)) (chain : Chain) (line : Line) → Contains (part chain).lines line
    → Contains (in_turn (part ∷ more) chain).lines line
told_first part more chain line within = Contains-append_left (part chain).lines (in_turn more (part chain).state).lines line within

pub told_later : (part : Chain → Outcome) (more : List (Chain → Outcome)) (chain : Chain) (line : Line)
    → Contains (in_turn more (part chain).state).lines line → Contains (in_turn (part ∷ more) chain).lines line
told_later part more chain line within = Contains-append_right (part chain).lines (in_turn more (part chain).state).lines line within

-- ## Every committee is sound

module _ (packed : PackedYesIsAccepting) (plain : PlainYesIsPassing) (fill : EveryFillPasses) (passing : PassingLaw)
    (averaging : AveragingLaw) where
  sound_of : (round : Option Round) (chain : Chain) → IsSoundRound round → All IsSeatedSoundly (decision_of round chain).seated
  sound_of None chain sound = All-nil IsSeatedSoundly
  sound_of (Some (rounds.Void number)) chain sound = All-nil IsSeatedSoundly
  sound_of (Some (rounds.Open number snapshot commissions)) chain sound =
      let passes = decided_passes packed fill plain snapshot chain.queue.items sound.0 in
      let weights = decided_weights snapshot (others snapshot chain.queue.items) in
      All-cons IsSeatedSoundly (record { round = number; snapshot = snapshot; weights = weights }) [] (record {
        well_formed = sound.0;
        feasible = passes.feasible;
        passes = passes;
        answered = passing snapshot weights sound.0 passes;
        proportional = averaging snapshot weights sound.0 passes;
      })
      (All-nil IsSeatedSoundly)

  sound_decision : (chain : Chain) → IsLive chain → All IsSeatedSoundly (decision_phase chain).seated
  sound_decision chain live = at (is_decision chain.params chain.due) where
    at : (b : Bool) → All IsSeatedSoundly (if b then decision_of chain.round chain else quiet chain).seated
    at true = sound_of chain.round chain live.round
    at false = All-nil IsSeatedSoundly

  pub sound_step : SoundStepLaw
  sound_step chain block live =
      subst (All IsSeatedSoundly) (sym (seats_step chain block))
      (sound_decision (undecided chain) (live_round (era_phase chain).state (live_era chain live)))

  sound_blocks : (chain : Chain) (blocks : List Block) → IsLive chain → chain.due + length blocks ≤ 2 ^ 32 → All IsSeatedSoundly (seated_by chain blocks)
  sound_blocks chain [] live fit = All-nil IsSeatedSoundly
  sound_blocks chain (block ∷ more) live fit =
      All-append IsSeatedSoundly (step chain block).seated (seated_by (step chain block).state more) (sound_step chain block live)
      (sound_blocks (step chain block).state more (live_step chain block live (omega (arith, fit))) (omega (arith, fit, due_step chain block)))

  pub sound_all : SeatedSoundLaw
  sound_all chain blocks can = sound_blocks chain blocks can.between.live can.fit

-- ## A round that is not void seats a committee

-- no round begins in the block of a decision
pub not_begun : (params : Option Params) (number : ℕ) → AreSound params → is_decision params number ≡ true → begun_round params number ≡ None
not_begun None number sound is = refl
not_begun (Some params) number sound is = at (place_of params number == params.offset) refl where
  at : (b : Bool) → (place_of params number == params.offset) ≡ b → (if b then Some (era_of (Some params) number + 1) else None) ≡ None
  at true e = absurd (let some = (phases_sound params sound).0 in grind (arith, nat_tests))
  at false e = refl

-- the decision is that of the round which stood before the block
pub decides : (chain : Chain) (round : Option Round) → IsLive chain → is_decision chain.params chain.due ≡ true → chain.round ≡ round
    → decision_phase (undecided chain) ≡ decision_of round (undecided chain)
decides chain round live is stands =
    let last : (undecided chain).round ≡ round =
    ap (round_after (era_phase chain).state) (not_begun chain.params chain.due live.params is) ∙ stands in
    (λ i. if is i then decision_of (undecided chain).round (undecided chain) else quiet (undecided chain))
    ∙ ap (λ round. decision_of round (undecided chain)) last

pub seats : SeatsLaw
seats chain block number snapshot commissions live is stands =
    let phase = decides chain (Some (rounds.Open number snapshot commissions)) live is stands in (
      (fixed_calls 0 block.calls (before_calls chain)).waiting ∙ ap (λ (o : Outcome). o.state.waiting) phase,
      seats_step chain block ∙ ap (λ (o : Outcome). o.seated) phase,
    )

pub held_after : HeldLaw
held_after chain blocks who can = (live_blocks chain blocks can.between.live can.fit).books.deposits.held who
