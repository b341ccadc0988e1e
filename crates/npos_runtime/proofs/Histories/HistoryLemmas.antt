-- What happens to the eras over blocks, as a history of the era book.
use Rattle.std.proofs.Common.{◌≡◌, ℕ, zero, suc, ◌+◌, List, [], ◌∷◌, ◌++◌, length, Option, Some, None, refl, ap, sym, subst, ◌∙◌, arith}
use Rattle.block_wire.specs.declared.call.Call.{Call}
use Rattle.block_wire.specs.declared.block.Block.{Block}
use Rattle.block_wire.specs.declared.genesis.Params.{Params}
use Rattle.era_book.specs.declared.exposure.Exposure.{Exposure}
use Rattle.era_book.specs.Exposures.{AreSound}
use Rattle.era_book.specs.declared.deferred.DeferredSlash.{DeferredSlash}
use Rattle.era_book.specs.Deferred.{next_due, without_next_due}
use Rattle.era_book.specs.Eras.{Eras, started}
use Rattle.era_book.specs.Events.{Event, Started, Taken, AreAccepted, after_all, given_by, begun}
use Rattle.era_book.proofs.EventLemmas.{accepted_append, after_append, given_append, begun_append}
use Rattle.npos_runtime.specs.declared.chain.Chain.{Chain}
use Rattle.block_receipts.specs.declared.refusal.Refusal.{Refusal}
use Rattle.npos_runtime.specs.Rules.Committee.{Committee}
use Rattle.npos_runtime.specs.Rules.Exposed.{exposed}
use Rattle.chain_params.specs.Rules.{begun_era}
use Rattle.npos_runtime.specs.Rules.CallRule.{CallRule}
use Rattle.npos_runtime.specs.Rules.Calls.{rule_for}
use Rattle.npos_runtime.specs.Rules.Offices.{apply_slash, applied}
use Rattle.npos_runtime.specs.Step.{before_calls, waiting_after, eras_after, applied_in, call_after, call_outcome, calls_outcome, step}
use Rattle.npos_runtime.specs.Live.{CanDefer}
use Rattle.npos_runtime.specs.Histories.Eras.{takings, started_by, event_of, events_at, events_of, events_in, events_by, over_calls, over_blocks}
use Rattle.npos_runtime.proofs.Rules.RuleLemmas.{FollowsEvents}
use Rattle.npos_runtime.proofs.Rules.CallTable.{lawful_call}
use Rattle.npos_runtime.proofs.Rules.OfficeCallLemmas.{eras_applied}
use Rattle.npos_runtime.proofs.Rules.PhaseTable.{era_state}
use Rattle.npos_runtime.proofs.Rules.LiveLemmas.{eras_before, can_call, fixed_call, params_before, params_step}

-- ## The events of calls

accepted_after : (due : Option Refusal) (rule : CallRule) (chain : Chain) → rule.refusal ≡ due → FollowsEvents chain rule → CanDefer chain
    → AreAccepted (event_of due rule) chain.eras
accepted_after None rule chain free follows can = follows.accepted can free
accepted_after (Some refusal) rule chain free follows can = tt

accepted_call : (call : Call) (chain : Chain) → CanDefer chain → AreAccepted (events_at call chain) chain.eras
accepted_call call chain can = accepted_after (rule_for chain call).refusal (rule_for chain call) chain refl (lawful_call call chain).eras can

eras_rule : (due : Option Refusal) (index : ℕ) (rule : CallRule) (chain : Chain) → FollowsEvents chain rule
    → after_all (event_of due rule) chain.eras ≡ (call_after due index rule chain).state.eras
eras_rule None index rule chain follows = follows.eras
eras_rule (Some refusal) index rule chain follows = refl

eras_call : (index : ℕ) (call : Call) (chain : Chain)
    → after_all (events_at call chain) chain.eras ≡ (call_outcome index call chain).state.eras
eras_call index call chain = eras_rule (rule_for chain call).refusal index (rule_for chain call) chain (lawful_call call chain).eras

accepted_calls : (index : ℕ) (calls : List Call) (chain : Chain) → CanDefer chain → AreAccepted (events_of index calls chain) chain.eras
accepted_calls index [] chain can = tt
accepted_calls index (call ∷ calls) chain can =
    let next : Chain = (call_outcome index call chain).state in
    accepted_append (events_at call chain) (events_of (index + 1) calls next) chain.eras (accepted_call call chain can)
    (subst (AreAccepted (events_of (index + 1) calls next)) (sym (eras_call index call chain))
    (accepted_calls (index + 1) calls next (can_call index call chain can)))

eras_calls : (index : ℕ) (calls : List Call) (chain : Chain) → after_all (events_of index calls chain) chain.eras ≡ (calls_outcome index calls chain).state.eras
eras_calls index [] chain = refl
eras_calls index (call ∷ calls) chain =
    let next : Chain = (call_outcome index call chain).state in
    after_append (events_at call chain) (events_of (index + 1) calls next) chain.eras
    ∙ ap (after_all (events_of (index + 1) calls next)) (eras_call index call chain)
    ∙ eras_calls (index + 1) calls next

begun_rule : (due : Option Refusal) (rule : CallRule) → begun rule.events ≡ [] → begun (event_of due rule) ≡ []
begun_rule None rule begins = begins
begun_rule (Some refusal) rule begins = refl

-- no call begins an era
begun_calls : (index : ℕ) (calls : List Call) (chain : Chain) → begun (events_of index calls chain) ≡ []
begun_calls index [] chain = refl
begun_calls index (call ∷ calls) chain =
    let next : Chain = (call_outcome index call chain).state in
    begun_append (events_at call chain) (events_of (index + 1) calls next)
    ∙ ap (λ (es : List (List Exposure)). es ++ begun (events_of (index + 1) calls next))
    (begun_rule (rule_for chain call).refusal (rule_for chain call) (lawful_call call chain).eras.begins)
    ∙ begun_calls (index + 1) calls next

-- ## The events of a block

accepted_takings : (count : ℕ) (eras : Eras) → AreAccepted (takings count) eras
accepted_takings zero eras = tt
accepted_takings (suc more) eras = (tt, accepted_takings more (without_next_due eras))

accepted_start : (waiting : Option Committee) (slashes : List DeferredSlash) (era : Option ℕ) (eras : Eras) → AreSound (exposed waiting)
    → AreAccepted (started_by waiting slashes era) eras
accepted_start waiting slashes None eras sound = tt
accepted_start waiting slashes (Some era) eras sound = (sound, accepted_takings (length slashes) (started (exposed waiting) eras))

-- the slashes that are applied leave as they are taken
eras_takings : (count : ℕ) (chain : Chain) → after_all (takings count) chain.eras ≡ (applied count chain).state.eras
eras_takings zero chain = refl
eras_takings (suc more) chain =
    let next : Chain = (apply_slash (next_due chain.eras) chain).state in
    ap (after_all (takings more)) (sym (eras_applied (next_due chain.eras) chain refl)) ∙ eras_takings more next

eras_start : (begun : Option ℕ) (chain : Chain)
    → after_all (started_by chain.waiting chain.eras.queue begun) chain.eras
    ≡ (applied_in begun (record chain { waiting = waiting_after chain.waiting begun; eras = eras_after chain.eras chain.waiting begun })).state.eras
eras_start None chain = refl
eras_start (Some era) chain =
    eras_takings (length chain.eras.queue) (record chain { waiting = None; eras = started (exposed chain.waiting) chain.eras })

-- the calls find the eras as the start of an era left them
found : (chain : Chain)
    → (before_calls chain).eras ≡ after_all (started_by chain.waiting chain.eras.queue (begun_era chain.params chain.due)) chain.eras
found chain =
    eras_before chain
    ∙ (ap (λ (c : Chain). c.eras) (era_state chain)
    ∙ sym (eras_start (begun_era chain.params chain.due) chain))

after_start : (chain : Chain) (block : Block) → AreAccepted (started_by chain.waiting chain.eras.queue
    (begun_era chain.params chain.due)) chain.eras → CanDefer (before_calls chain)
    → AreAccepted (events_in chain block) chain.eras
after_start chain block start can =
    accepted_append (started_by chain.waiting chain.eras.queue (begun_era chain.params chain.due)) (events_of 0 block.calls (before_calls chain)) chain.eras start
    (subst (AreAccepted (events_of 0 block.calls (before_calls chain))) (found chain) (accepted_calls 0 block.calls (before_calls chain) can))

pub accepted_block : (chain : Chain) (block : Block) → AreSound (exposed chain.waiting) → CanDefer (before_calls chain) → AreAccepted (events_in chain block) chain.eras
accepted_block chain block sound can = after_start chain block (accepted_start chain.waiting chain.eras.queue (begun_era chain.params chain.due) chain.eras sound) can

pub eras_block : (chain : Chain) (block : Block) → after_all (events_in chain block) chain.eras ≡ (step chain block).state.eras
eras_block chain block =
    let calls : List Event = events_of 0 block.calls (before_calls chain) in
    after_append (started_by chain.waiting chain.eras.queue (begun_era chain.params chain.due)) calls chain.eras
    ∙ ap (after_all calls) (sym (found chain))
    ∙ eras_calls 0 block.calls (before_calls chain)

pub begun_block : (chain : Chain) (block : Block) → begun (events_in chain block) ≡ begun (started_by chain.waiting chain.eras.queue (begun_era chain.params chain.due))
begun_block chain block =
    let start : List Event = started_by chain.waiting chain.eras.queue (begun_era chain.params chain.due) in
    begun_append start (events_of 0 block.calls (before_calls chain))
    ∙ ap (λ (es : List (List Exposure)). begun start ++ es) (begun_calls 0 block.calls (before_calls chain))
    ∙ none_more (begun start) where
      none_more : (es : List (List Exposure)) → es ++ [] ≡ es
      none_more [] = refl
      none_more (e ∷ es) = ap (λ (rest : List (List Exposure)). e ∷ rest) (none_more es)

-- ## Sums over calls as sums over events

module _ (params : Option Params) (gives : ℕ → Call → Chain → ℕ) (event_gives : Event → Eras → ℕ)
    (each : (index : ℕ) (call : Call) (chain : Chain) → chain.params ≡ params
    → gives index call chain ≡ given_by event_gives (events_at call chain) chain.eras)
    (start : (exposures : List Exposure) (eras : Eras) → event_gives (Started exposures) eras ≡ 0)
    (taking : (eras : Eras) → event_gives Taken eras ≡ 0) where
  sum_calls : (index : ℕ) (calls : List Call) (chain : Chain) → chain.params ≡ params → over_calls gives index calls chain ≡ given_by event_gives (events_of index calls chain) chain.eras
  sum_calls index [] chain is = refl
  sum_calls index (call ∷ calls) chain is =
      let next : Chain = (call_outcome index call chain).state in
      omega (
        arith,
        each index call chain is,
        sum_calls (index + 1) calls next ((fixed_call index call chain).params ∙ is),
        given_append event_gives (events_at call chain) (events_of (index + 1) calls next) chain.eras,
        ap (given_by event_gives (events_of (index + 1) calls next)) (eras_call index call chain),
      )

  sum_takings : (count : ℕ) (eras : Eras) → given_by event_gives (takings count) eras ≡ 0
  sum_takings zero eras = refl
  sum_takings (suc more) eras = omega (arith, taking eras, sum_takings more (without_next_due eras))

  sum_start : (waiting : Option Committee) (slashes : List DeferredSlash) (era : Option ℕ) (eras : Eras)
      → given_by event_gives (started_by waiting slashes era) eras ≡ 0
  sum_start waiting slashes None eras = refl
  sum_start waiting slashes (Some era) eras =
      omega (arith, start (exposed waiting) eras, sum_takings (length slashes) (started (exposed waiting) eras))

  pub sum_blocks : (chain : Chain) (blocks : List Block) → chain.params ≡ params → over_blocks gives chain blocks ≡ given_by event_gives (events_by chain blocks) chain.eras
  sum_blocks chain [] is = refl
  sum_blocks chain (block ∷ more) is =
      let next : Chain = (step chain block).state in
      let first : List Event = started_by chain.waiting chain.eras.queue (begun_era chain.params chain.due) in
      let calls : List Event = events_of 0 block.calls (before_calls chain) in
      omega (
        arith,
        sum_calls 0 block.calls (before_calls chain) (params_before chain ∙ is),
        sum_blocks next more (params_step chain block ∙ is),
        given_append event_gives (events_in chain block) (events_by next more) chain.eras,
        ap (given_by event_gives (events_by next more)) (eras_block chain block),
        given_append event_gives first calls chain.eras,
        ap (given_by event_gives calls) (found chain),
        sum_start chain.waiting chain.eras.queue (begun_era chain.params chain.due) chain.eras,
      )
