-- Each call is answered.
use Rattle.std.proofs.Common.{◌≡◌, ℕ, ◌≤◌, Bool, true, false, ◌&&◌, nat_le, Option, Some, None, refl, ap, arith}
use Rattle.std.proofs.lemmas.Bool.Decides.{nat_tests}
use Rattle.block_receipts.specs.declared.refusal.Refusal.{Refusal}
use Rattle.block_receipts.specs.Refusals.{code_of}
use Rattle.npos_base.specs.Limits.{is_within}
use Rattle.npos_runtime.specs.Rules.Calls.{rule_for}
use Rattle.npos_runtime.specs.Step.{call_after}
use Rattle.npos_runtime.specs.Histories.Answers.{IsCallAnswered, AnswersLaw}
use Rattle.npos_runtime.specs.Histories.Answers.IsCallAnswered.{Accepted, Refused}
use Rattle.npos_runtime.proofs.Rules.CodeLemmas.{itself, IsCoded}
use Rattle.npos_runtime.proofs.Rules.CodeLemmas.IsCoded.{Due}
use Rattle.npos_runtime.proofs.Rules.CallTable.{lawful_call}

within_both : (code : ℕ) → is_within 1 32 code ≡ true → (1 ≤ code) × (code ≤ 32)
within_both code is = at (nat_le 1 code) (nat_le code 32) refl refl is where
  at : (a b : Bool) → nat_le 1 code ≡ a → nat_le code 32 ≡ b → (a && b) ≡ true → (1 ≤ code) × (code ≤ 32)
  at true true e f both = (grind (arith, nat_tests), grind (arith, nat_tests))
  at true false e f both = cc
  at false b e f both = cc

pub answers_law : AnswersLaw
answers_law index call chain = at (rule_for chain call).refusal refl (lawful_call call chain).code where
  at : (due : Option Refusal) → (rule_for chain call).refusal ≡ due → IsCoded itself due → IsCallAnswered index call chain
  at None is coded = Accepted (rule_for chain call).told (ap (λ (d : Option Refusal). (call_after d index (rule_for chain call) chain).lines) is)
  at (Some refusal) is (Due why coded) =
      let within = within_both (code_of refusal) coded in
      Refused (code_of refusal) within.0 within.1
      (ap (λ (d : Option Refusal). (call_after d index (rule_for chain call) chain).lines) is)
      (ap (λ (d : Option Refusal). (call_after d index (rule_for chain call) chain).state) is)
