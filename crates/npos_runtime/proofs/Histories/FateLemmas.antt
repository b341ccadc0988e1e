-- Each accepted submission is settled once.
use Rattle.std.proofs.Common.{◌≡◌, ◌⊎◌, inl, inr, ℕ, ◌+◌, ◌≤◌, ◌^◌, Bool, true, false, cond, nat_lt, ◌==◌, List, []}
use Rattle.std.proofs.Common.{◌∷◌, ◌++◌, length, Option, Some, None, refl, sym, subst, ◌∙◌, ap, arith, if◌then◌else◌}
use Rattle.std.proofs.lemmas.Bool.Decides.{nat_tests}
use Rattle.std.proofs.lemmas.List.Sums.{sum_by-append}
use Rattle.std.proofs.lemmas.List.Sorted.{sum_by-IsPermutation}
use Rattle.block_wire.specs.declared.call.Call.{Call}
use Rattle.block_wire.specs.declared.block.Block.{Block}
use Rattle.block_wire.specs.declared.genesis.Genesis.{Genesis}
use Rattle.npos_base.specs.declared.account.AccountId.{AccountId}
use Rattle.npos_base.specs.declared.figures.Score.{Score}
use Rattle.submission_queue.specs.declared.submission.Submission.{Submission}
use Rattle.submission_queue.specs.Ranking.{offered}
use Rattle.npos_runtime.specs.declared.chain.Chain.{Chain}
use Rattle.block_receipts.specs.declared.line.Line.TheVariants as lines
use Rattle.block_receipts.specs.declared.refusal.Refusal.{Refusal}
use Rattle.round_decision.specs.Deposits.{return_lines}
use Rattle.npos_runtime.specs.Rules.Signed.{ejected, submission_of, form_refusal, offer_refusal, submit_rule}
use Rattle.npos_runtime.specs.Rules.CallRule.{CallRule}
use Rattle.npos_runtime.specs.Rules.Calls.{rule_for}
use Rattle.npos_runtime.specs.Rules.Outcome.{Outcome}
use Rattle.npos_runtime.specs.Step.{phases, in_turn, before_calls, call_after, call_outcome, calls_outcome, step, after_blocks, told_by}
use Rattle.npos_runtime.specs.Genesis.{genesis_chain}
use Rattle.npos_runtime.specs.History.{IsHistory}
use Rattle.npos_runtime.specs.Histories.Laws.{SettledLaw}
use Rattle.npos_runtime.specs.Live.{IsLive}
use Rattle.npos_runtime.specs.Histories.Fates.{fate, waiting_with, issued}
use Rattle.npos_runtime.proofs.Histories.OfferLemmas.{taken}
use Rattle.npos_runtime.proofs.Rules.PartLemmas.{second_none}
use Rattle.npos_runtime.proofs.Rules.RuleLemmas.{LeavesQueue, Submits}
use Rattle.npos_runtime.proofs.Rules.SubmitCallLemmas.{offer_free}
use Rattle.npos_runtime.proofs.Rules.OfficeCallLemmas.{settled_more}
use Rattle.npos_runtime.proofs.Rules.CallTable.{lawful_call}
use Rattle.npos_runtime.proofs.Histories.FairLemmas.{numbered, IsFair, fair_then, fair_quiet, waiting_more, returns_settle}
use Rattle.npos_runtime.proofs.Rules.PhaseTable.{phases_keep, fair_in_turn}
use Rattle.npos_runtime.proofs.Rules.LiveLemmas.{live_before, live_call, live_step, due_step}
use Rattle.npos_runtime.proofs.Rules.BeginLemmas.{live_begun}

module _ (number : ℕ) where
  -- the number after the last one given
  issued_next : (next : ℕ) → issued number (next + 1) ≡ issued number next + cond (next == number) 1 0
  issued_next next = at (nat_lt number next) (next == number) (nat_lt number (next + 1)) refl refl refl where
    at : (a b d : Bool) → nat_lt number next ≡ a → (next == number) ≡ b → nat_lt number (next + 1) ≡ d
        → (if d then 1 else 0) ≡ (if a then 1 else 0) + cond b 1 0
    at true true d e f g = absurd (grind (arith, nat_tests))
    at true false true e f g = refl
    at true false false e f g = absurd (grind (arith, nat_tests))
    at false true true e f g = refl
    at false true false e f g = absurd (grind (arith, nat_tests))
    at false false true e f g = absurd (grind (arith, nat_tests))
    at false false false e f g = refl

  fair_submit : (chain : Chain) (item : Submission) → IsLive chain → offer_refusal chain item ≡ None → item.number ≡ chain.next
      → waiting_with number (ejected chain.queue item) + (waiting_with number (offered chain.queue item).items + issued number chain.next)
      ≡ waiting_with number chain.queue.items + issued number (chain.next + 1)
  fair_submit chain item live none given =
      let moved = (taken chain.queue item live.queue (offer_free chain item none).1).moved in
      omega (
        arith,
        sum_by-IsPermutation (numbered number) (item ∷ chain.queue.items)
            (ejected chain.queue item ++ (offered chain.queue item).items) moved,
        sum_by-append (numbered number) (ejected chain.queue item) (offered chain.queue item).items,
        waiting_more number item chain.queue.items,
        issued_next chain.next,
        ap {B = ℕ} (λ (n : ℕ). cond (n == number) 1 0) given,
      )

  fair_submitted : (index : ℕ) (chain : Chain) (who : AccountId) (round : ℕ) (claim : Score) (bytes : List ℕ) → IsLive chain
      → (submit_rule chain who round claim bytes).refusal ≡ None
      → IsFair number chain (lines.CallOk index ∷ (submit_rule chain who round claim bytes).told)
      (submit_rule chain who round claim bytes).done
  fair_submitted index chain who round claim bytes live none =
      let item : Submission = submission_of chain who claim bytes in
      omega (
        arith,
        settled_more number (lines.CallOk index) (return_lines (ejected chain.queue item)),
        returns_settle number (ejected chain.queue item),
        fair_submit chain item live (second_none (form_refusal chain round bytes) (offer_refusal chain item) none) refl,
      )

  fair_done : (index : ℕ) (chain : Chain) (who : AccountId) (rule : CallRule) → IsLive chain → rule.refusal ≡ None
      → LeavesQueue chain rule ⊎ Submits chain who rule → IsFair number chain (lines.CallOk index ∷ rule.told) rule.done
  fair_done index chain who rule live none (inl leaves) =
      fair_quiet number chain rule.done (lines.CallOk index ∷ rule.told)
      (omega (arith, settled_more number (lines.CallOk index) rule.told, leaves.settled number)) leaves.queue leaves.next
  fair_done index chain who rule live none (inr submits) =
      subst (λ (r : CallRule). IsFair number chain (lines.CallOk index ∷ r.told) r.done) (sym submits.is)
      (fair_submitted index chain who submits.round submits.claim submits.bytes live
      (ap (λ (r : CallRule). r.refusal) (sym submits.is) ∙ none))

  fair_after : (due : Option Refusal) (index : ℕ) (chain : Chain) (who : AccountId) (rule : CallRule) → IsLive chain → rule.refusal ≡ due
      → LeavesQueue chain rule ⊎ Submits chain who rule
      → IsFair number chain (call_after due index rule chain).lines (call_after due index rule chain).state
  fair_after None index chain who rule live e queue = fair_done index chain who rule live e queue
  fair_after (Some refusal) index chain who rule live e queue = omega arith

  fair_calls : (index : ℕ) (calls : List Call) (chain : Chain) → IsLive chain
      → IsFair number chain (calls_outcome index calls chain).lines (calls_outcome index calls chain).state
  fair_calls index [] chain live = omega arith
  fair_calls index (call ∷ calls) chain live =
      let once : Outcome = call_outcome index call chain in
      fair_then number chain once.state (calls_outcome (index + 1) calls once.state).state once.lines
      (calls_outcome (index + 1) calls once.state).lines
      (fair_after (rule_for chain call).refusal index chain call.who (rule_for chain call) live refl (lawful_call call chain).queue)
      (fair_calls (index + 1) calls once.state (live_call index call chain live))

  pub fair_step : (chain : Chain) (block : Block) → IsLive chain → IsFair number chain (step chain block).lines (step chain block).state
  fair_step chain block live =
      let start : Chain = before_calls chain in
      let calls : Outcome = calls_outcome 0 block.calls start in
      fair_then number chain chain (step chain block).state (lines.Block block.number ∷ [])
      ((in_turn phases chain).lines ++ (calls.lines ++ [])) (omega arith)
      (fair_then number chain start (step chain block).state (in_turn phases chain).lines (calls.lines ++ [])
      (fair_in_turn number phases phases_keep chain)
      (fair_then number start calls.state (step chain block).state calls.lines [] (fair_calls 0 block.calls start (live_before chain live))
      (omega arith)))

  fair_blocks : (chain : Chain) (blocks : List Block) → IsLive chain → chain.due + length blocks ≤ 2 ^ 32
      → IsFair number chain (told_by chain blocks) (after_blocks chain blocks)
  fair_blocks chain [] live fit = omega arith
  fair_blocks chain (block ∷ more) live fit =
      let next : Chain = (step chain block).state in
      fair_then number chain next (after_blocks next more) (step chain block).lines (told_by next more) (fair_step chain block live)
      (fair_blocks next more (live_step chain block live (omega (arith, fit))) (omega (arith, fit, due_step chain block)))

  none_issued : 1 ≤ number → issued number 1 ≡ 0
  none_issued from = at (nat_lt number 1) refl where
    at : (b : Bool) → nat_lt number 1 ≡ b → cond {A = ℕ} b 1 0 ≡ 0
    at true e = absurd (grind (arith, nat_tests))
    at false e = refl

  pub one_fate : (genesis : Genesis) (blocks : List Block) → IsHistory genesis blocks → 1 ≤ number
      → fate number (told_by (genesis_chain genesis) blocks) + waiting_with number (after_blocks (genesis_chain genesis) blocks).queue.items
      ≡ issued number (after_blocks (genesis_chain genesis) blocks).next
  one_fate genesis blocks history from =
      omega (arith, fair_blocks (genesis_chain genesis) blocks (live_begun genesis history.faultless) history.fit, none_issued from)

pub settled_law : SettledLaw
settled_law chain blocks number can = fair_blocks number chain blocks can.between.live can.fit
