-- Calls, the phases of a block and blocks keep what holds of a chain.
use Rattle.std.proofs.Common.{◌≡◌, ℕ, zero, suc, ◌/◌, ◌*◌, ◌+◌, ◌≤◌, All, List, [], ◌∷◌, Option, Some, None, refl, sym, subst, ◌∙◌, ap, arith, length, ◌-◌, ◌<◌, ◌^◌}
use Rattle.std.proofs.lemmas.Nat.{le-div}
use Rattle.std.proofs.Math.Nat.{div-zero, div-mul-le_self}
use Rattle.std.proofs.lemmas.List.Elements.{All-weaker}
use Rattle.block_wire.specs.declared.call.Call.{Call}
use Rattle.block_wire.specs.declared.block.Block.{Block}
use Rattle.block_wire.specs.declared.genesis.Params.{Params}
use Rattle.stake_ledger.specs.declared.chunks.Chunk.{Chunk}
use Rattle.stake_ledger.specs.Ledger.{row_at}
use Rattle.era_book.specs.declared.deferred.DeferredSlash.{DeferredSlash}
use Rattle.era_book.specs.Deferred.{next_due}
use Rattle.era_book.specs.Exposures.{AreSound as AreSoundExposures}
use Rattle.era_book.specs.Events.{Started, Taken}
use Rattle.era_book.specs.Eras.{Eras}
use Rattle.block_receipts.specs.declared.refusal.Refusal.{Refusal}
use Rattle.chain_params.specs.Rules.{era_of, begun_era}
use Rattle.chain_params.specs.Faults.{AreSound}
use Rattle.chain_params.proofs.PhaseLemmas.{phases_sound}
use Rattle.chain_params.proofs.FaultLemmas.{wait_within}
use Rattle.npos_runtime.specs.declared.chain.Chain.{Chain}
use Rattle.npos_runtime.specs.Rules.CallRule.{CallRule}
use Rattle.npos_runtime.specs.Rules.BookCalls.{release_now}
use Rattle.npos_runtime.specs.Rules.Calls.{rule_for}
use Rattle.npos_runtime.specs.Rules.Rounds.{round_phase}
use Rattle.npos_base.specs.declared.account.AccountId.{AccountId}
use Rattle.npos_runtime.specs.Rules.Exposed.{exposed}
use Rattle.npos_runtime.specs.Rules.Offices.{apply_slash, applied}
use Rattle.npos_runtime.specs.Rules.Outcome.{Outcome}
use Rattle.npos_runtime.specs.Step.{eras_after, waiting_after, applied_in, era_phase, phases, before_calls, call_after, call_outcome, calls_outcome, closed, step, after_blocks}
use Rattle.npos_runtime.specs.Live.{IsLive, AreInCourse, CanDefer}
use Rattle.npos_runtime.proofs.Histories.CourseLemmas.{course_after}
use Rattle.npos_runtime.proofs.Rules.EraLemmas.{era_begun}
use Rattle.npos_runtime.proofs.Rules.RuleLemmas.{KeepsLive, IsFixed, fixed_itself, fixed_then, IsLawful, IsLater, line_same, rule_can}
use Rattle.npos_runtime.proofs.Rules.OfficeCallLemmas.{applied_keeps, eras_applied}
use Rattle.npos_runtime.proofs.Rules.CallTable.{lawful_call}
use Rattle.npos_runtime.proofs.Rules.PhaseTable.{era_state, StaysDue, phases_keep, live_in_turn, due_in_turn, eras_decision}

live_after : (due : Option Refusal) (index : ℕ) (rule : CallRule) (chain : Chain) → IsLive chain → rule.refusal ≡ due → KeepsLive chain rule
    → IsLive (call_after due index rule chain).state
live_after None index rule chain live free keeps = keeps live free
live_after (Some refusal) index rule chain live free keeps = live

-- a call keeps the chain live, whether it is refused or not
pub live_call : (index : ℕ) (call : Call) (chain : Chain) → IsLive chain → IsLive (call_outcome index call chain).state
live_call index call chain live =
    live_after (rule_for chain call).refusal index (rule_for chain call) chain live refl (lawful_call call chain).live

pub live_calls : (index : ℕ) (calls : List Call) (chain : Chain) → IsLive chain → IsLive (calls_outcome index calls chain).state
live_calls index [] chain live = live
live_calls index (call ∷ calls) chain live = live_calls (index + 1) calls (call_outcome index call chain).state (live_call index call chain live)

fixed_after : (due : Option Refusal) (index : ℕ) (rule : CallRule) (chain : Chain) → IsFixed chain rule.done
    → IsFixed chain (call_after due index rule chain).state
fixed_after None index rule chain fixed = fixed
fixed_after (Some refusal) index rule chain fixed = fixed_itself chain

pub fixed_call : (index : ℕ) (call : Call) (chain : Chain) → IsFixed chain (call_outcome index call chain).state
fixed_call index call chain = fixed_after (rule_for chain call).refusal index (rule_for chain call) chain (lawful_call call chain).fixed

pub fixed_calls : (index : ℕ) (calls : List Call) (chain : Chain) → IsFixed chain (calls_outcome index calls chain).state
fixed_calls index [] chain = fixed_itself chain
fixed_calls index (call ∷ calls) chain =
    let next : Chain = (call_outcome index call chain).state in
    fixed_then chain next (calls_outcome (index + 1) calls next).state (fixed_call index call chain) (fixed_calls (index + 1) calls next)

pub due_calls : (index : ℕ) (calls : List Call) (chain : Chain) → (calls_outcome index calls chain).state.due ≡ chain.due
due_calls index calls chain = (fixed_calls index calls chain).due

more_quotient : (a b k : ℕ) → a ≤ b → a / k ≤ b / k
more_quotient a b zero more = omega (arith, div-zero a, div-zero b)
more_quotient a b (suc k) more = le-div (a / suc k) b (suc k) (omega arith) (omega (arith, div-mul-le_self a (suc k), more))

pub later_release : (params : Option Params) (due : ℕ) → era_of params due ≤ era_of params (due + 1)
later_release None due = omega arith
later_release (Some params) due = more_quotient (due - 1) (due + 1 - 1) params.era_blocks (omega arith)

released_later : (a b : ℕ) (chunks : List Chunk) → a ≤ b → All (λ chunk. chunk.release ≤ a) chunks → All (λ chunk. chunk.release ≤ b) chunks
released_later a b chunks later by = λ k d few. omega (arith, by k d few, later)

-- the next block is due, if there is one
pub live_closed : (chain : Chain) → IsLive chain → chain.due < 2 ^ 32 → IsLive (closed chain).state
live_closed chain live more = record {
  params = live.params;
  defer = live.defer;
  due = record { at_least = omega arith; at_most = omega (arith, more) };
  books = record {
    balanced = live.books.balanced;
    releases = λ who. released_later (release_now chain) (release_now (closed chain).state) (row_at chain.book who).chunks
        (omega (arith, later_release chain.params chain.due)) (live.books.releases who);
    deposits = live.books.deposits;
  };
  roles = live.roles;
  bags = live.bags;
  round = live.round;
  queue = live.queue;
  waiting = live.waiting;
}

pub live_before : (chain : Chain) → IsLive chain → IsLive (before_calls chain)
live_before chain live = live_in_turn phases phases_keep chain live

pub stays_before : (chain : Chain) → StaysDue chain (before_calls chain)
stays_before chain = due_in_turn phases phases_keep chain

pub due_before : (chain : Chain) → (before_calls chain).due ≡ chain.due
due_before chain = (stays_before chain).due

pub params_before : (chain : Chain) → (before_calls chain).params ≡ chain.params
params_before chain = (stays_before chain).params

pub next_before : (chain : Chain) → (before_calls chain).next ≡ chain.next
next_before chain = (stays_before chain).next

pub defer_before : (chain : Chain) → (before_calls chain).defer ≡ chain.defer
defer_before chain = (stays_before chain).defer

-- the calls of a block find the eras as they are once one may have begun
pub eras_before : (chain : Chain) → (before_calls chain).eras ≡ (era_phase chain).state.eras
eras_before chain = eras_decision (round_phase (era_phase chain).state).state

-- the step of a block keeps the chain live
pub live_step : (chain : Chain) (block : Block) → IsLive chain → chain.due < 2 ^ 32 → IsLive (step chain block).state
live_step chain block live more =
    live_closed (calls_outcome 0 block.calls (before_calls chain)).state (live_calls 0 block.calls (before_calls chain) (live_before chain live))
    (omega (arith, due_calls 0 block.calls (before_calls chain), due_before chain, more))

pub due_step : (chain : Chain) (block : Block) → (step chain block).state.due ≡ chain.due + 1
due_step chain block = ap (λ due. due + 1) (due_calls 0 block.calls (before_calls chain) ∙ due_before chain)

-- the era is the one of the last block, once the next one is due
pub era_step : (chain : Chain) (block : Block) → IsLive chain → chain.eras.current ≡ era_of chain.params (chain.due - 1)
    → (step chain block).state.eras.current ≡ era_of (step chain block).state.params ((step chain block).state.due - 1)
era_step chain block live is =
    let fixed = fixed_calls 0 block.calls (before_calls chain) in
    let back : (calls_outcome 0 block.calls (before_calls chain)).state.due + 1 - 1 ≡ chain.due = omega (arith, fixed.due, due_before chain) in
    let params = fixed.params ∙ params_before chain in
    fixed.era
    ∙ (ap (λ (eras : Eras). eras.current) (eras_before chain)
    ∙ (era_begun chain.eras chain.waiting chain.params chain.due live.params live.due.at_least is
    ∙ (λ i. era_of (sym params i) (sym back i))))

-- a call takes at most one number
next_after : (due : Option Refusal) (index : ℕ) (rule : CallRule) (chain : Chain) → rule.done.next ≤ chain.next + 1
    → (call_after due index rule chain).state.next ≤ chain.next + 1
next_after None index rule chain most = most
next_after (Some refusal) index rule chain most = omega arith

pub next_call : (index : ℕ) (call : Call) (chain : Chain) → (call_outcome index call chain).state.next ≤ chain.next + 1
next_call index call chain = next_after (rule_for chain call).refusal index (rule_for chain call) chain (lawful_call call chain).next

pub next_calls : (index : ℕ) (calls : List Call) (chain : Chain) → (calls_outcome index calls chain).state.next ≤ chain.next + length calls
next_calls index [] chain = omega arith
next_calls index (call ∷ calls) chain =
    omega (arith, next_calls (index + 1) calls (call_outcome index call chain).state, next_call index call chain)

-- what waits stays in order over calls
can_after : (due : Option Refusal) (index : ℕ) (chain : Chain) (who : AccountId) (rule : CallRule) → rule.refusal ≡ due → IsLawful chain who rule
    → CanDefer chain → CanDefer (call_after due index rule chain).state
can_after None index chain who rule free is can = rule_can chain who rule is free can
can_after (Some refusal) index chain who rule free is can = can

pub can_call : (index : ℕ) (call : Call) (chain : Chain) → CanDefer chain → CanDefer (call_outcome index call chain).state
can_call index call chain can = can_after (rule_for chain call).refusal index chain call.who (rule_for chain call) refl (lawful_call call chain) can

pub can_calls : (index : ℕ) (calls : List Call) (chain : Chain) → CanDefer chain → CanDefer (calls_outcome index calls chain).state
can_calls index [] chain can = can
can_calls index (call ∷ calls) chain can = can_calls (index + 1) calls (call_outcome index call chain).state (can_call index call chain can)

slash_after : (due : Option Refusal) (index : ℕ) (rule : CallRule) (chain : Chain) → rule.done.eras.next_slash ≤ chain.eras.next_slash + 1
    → (call_after due index rule chain).state.eras.next_slash ≤ chain.eras.next_slash + 1
slash_after None index rule chain most = most
slash_after (Some refusal) index rule chain most = omega arith

pub slash_call : (index : ℕ) (call : Call) (chain : Chain)
    → (call_outcome index call chain).state.eras.next_slash ≤ chain.eras.next_slash + 1
slash_call index call chain = slash_after (rule_for chain call).refusal index (rule_for chain call) chain (lawful_call call chain).line.next

pub slash_calls : (index : ℕ) (calls : List Call) (chain : Chain)
    → (calls_outcome index calls chain).state.eras.next_slash ≤ chain.eras.next_slash + length calls
slash_calls index [] chain = omega arith
slash_calls index (call ∷ calls) chain =
    omega (arith, slash_calls (index + 1) calls (call_outcome index call chain).state, slash_call index call chain)

twice : (q k : ℕ) → 2 ≤ k → q * 2 ≤ q * k
twice zero k two = omega arith
twice (suc q) k two = omega (arith, twice q k two, two)

-- the number of an era is far below those of blocks
pub era_small : (params : Option Params) (number : ℕ) → AreSound params → number ≤ 2 ^ 32 → era_of params number < 2 ^ 31
era_small None number sound most = omega arith
era_small (Some params) number sound most =
    let within = phases_sound params sound in
    let quotient : ℕ = (number - 1) / params.era_blocks in
    omega (arith, div-mul-le_self (number - 1) params.era_blocks, twice quotient params.era_blocks (omega (arith, within)), most)

-- an era that begins lets go of what is due in it
later_started : (begun : Option ℕ) (chain : Chain) → IsLater chain
    → let eras : Eras = eras_after chain.eras chain.waiting begun in
    let left : Outcome = applied_in begun (record chain { waiting = waiting_after chain.waiting begun; eras = eras }) in
    All (λ slash. slash.due ≤ eras.current + chain.defer) left.state.eras.queue
later_started None chain later = later
later_started (Some era) chain later =
    let eras : Eras = eras_after chain.eras chain.waiting (Some era) in
    let start : Chain = record chain { waiting = None; eras = eras } in
    applied_keeps (λ slash. slash.due ≤ eras.current + chain.defer) (length chain.eras.queue) start
    (All-weaker (λ (slash : DeferredSlash). slash.due ≤ chain.eras.current + chain.defer) (λ slash. slash.due ≤ eras.current + chain.defer)
    (λ slash below. omega (arith, below)) chain.eras.queue later)

order_takings : (count : ℕ) (chain : Chain) → AreInCourse chain.eras → AreInCourse (applied count chain).state.eras
order_takings zero chain order = order
order_takings (suc more) chain order =
    let next : Chain = (apply_slash (next_due chain.eras) chain).state in
    order_takings more next
    (subst AreInCourse (sym (eras_applied (next_due chain.eras) chain refl)) (course_after Taken chain.eras tt order))

order_started : (begun : Option ℕ) (chain : Chain) → AreSoundExposures (exposed chain.waiting) → AreInCourse chain.eras
    → AreInCourse (applied_in begun (record chain {
      waiting = waiting_after chain.waiting begun;
      eras = eras_after chain.eras chain.waiting begun;
    })).state.eras
order_started None chain sound order = order
order_started (Some era) chain sound order =
    order_takings (length chain.eras.queue) (record chain { waiting = None; eras = eras_after chain.eras chain.waiting (Some era) })
    (course_after (Started (exposed chain.waiting)) chain.eras sound order)

can_begun : (chain : Chain) → IsLive chain → chain.eras.current ≡ era_of chain.params (chain.due - 1) → AreSoundExposures (exposed chain.waiting)
    → CanDefer chain → CanDefer (era_phase chain).state
can_begun chain live is sound can = record {
  order = subst (λ (c : Chain). AreInCourse c.eras) (sym (era_state chain)) (order_started (begun_era chain.params chain.due) chain sound can.order);
  later = later_started (begun_era chain.params chain.due) chain can.later;
  fits = omega (
    arith,
    era_begun chain.eras chain.waiting chain.params chain.due live.params live.due.at_least is,
    era_small chain.params chain.due live.params live.due.at_most,
    wait_within chain.params chain.defer live.params live.defer,
  );
}

can_same : (old new : Chain) → new.eras ≡ old.eras → new.defer ≡ old.defer → CanDefer old → CanDefer new
can_same old new same defer can = record {
  order = subst AreInCourse (sym same) can.order;
  later = (line_same {old = old} {new = new} same defer).later can.later;
  fits = omega (arith, can.fits, defer, ap (λ (eras : Eras). eras.current) same);
}

-- what waits is in order when the calls of a block begin
pub can_before : (chain : Chain) → IsLive chain → chain.eras.current ≡ era_of chain.params (chain.due - 1) → AreSoundExposures (exposed chain.waiting)
    → CanDefer chain → CanDefer (before_calls chain)
can_before chain live is sound can =
    can_same (era_phase chain).state (before_calls chain) (eras_before chain) (defer_before chain) (can_begun chain live is sound can)

next_started : (begun : Option ℕ) (chain : Chain) → (eras_after chain.eras chain.waiting begun).next_slash ≡ chain.eras.next_slash
next_started None chain = refl
next_started (Some era) chain = refl

pub slash_before : (chain : Chain) → (before_calls chain).eras.next_slash ≡ chain.eras.next_slash
slash_before chain = ap (λ (eras : Eras). eras.next_slash) (eras_before chain) ∙ next_started (begun_era chain.params chain.due) chain

pub can_step : (chain : Chain) (block : Block) → IsLive chain → chain.eras.current ≡ era_of chain.params (chain.due - 1)
    → AreSoundExposures (exposed chain.waiting) → CanDefer chain → CanDefer (step chain block).state
can_step chain block live is sound can =
    let called : Chain = (calls_outcome 0 block.calls (before_calls chain)).state in
    can_same called (step chain block).state refl refl (can_calls 0 block.calls (before_calls chain) (can_before chain live is sound can))

-- and so do all blocks that there are numbers for
pub live_blocks : (chain : Chain) (blocks : List Block) → IsLive chain → chain.due + length blocks ≤ 2 ^ 32 → IsLive (after_blocks chain blocks)
live_blocks chain [] live fit = live
live_blocks chain (block ∷ more) live fit =
    live_blocks (step chain block).state more (live_step chain block live (omega (arith, fit))) (omega (arith, fit, due_step chain block))

pub params_step : (chain : Chain) (block : Block) → (step chain block).state.params ≡ chain.params
params_step chain block = (fixed_calls 0 block.calls (before_calls chain)).params ∙ params_before chain

pub params_blocks : (chain : Chain) (blocks : List Block) → (after_blocks chain blocks).params ≡ chain.params
params_blocks chain [] = refl
params_blocks chain (block ∷ more) = params_blocks (step chain block).state more ∙ params_step chain block
