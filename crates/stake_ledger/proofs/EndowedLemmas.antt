-- Who is known after an endowment.
use Rattle.std.proofs.Common.{◌≡◌, ◌||◌, ℕ, Bool, true, false, is_some, refl, sym, ◌∙◌, ap, inl, inr, true≢false}
use Rattle.std.proofs.lemmas.Bool.{cases_Bool, or_right}
use Rattle.npos_base.specs.declared.account.AccountId.{AccountId}
use Rattle.npos_base.specs.Account.{same_account}
use Rattle.npos_base.proofs.AccountOrder.{same_exact, same_itself}
use Rattle.stake_ledger.specs.Rows.{gained}
use Rattle.stake_ledger.specs.Ledger.{Ledger, row_of}
use Rattle.stake_ledger.specs.Calls.{endowed}
use Rattle.stake_ledger.proofs.LedgerLemmas.{row_of-changed, others_stay}

or-false : (a : Bool) → (a || false) ≡ a
or-false true = refl
or-false false = refl

-- the account that is endowed is known, and every other one as before
pub known_by : (who other : AccountId) (value : ℕ) (ledger : Ledger)
    → is_some (row_of (endowed who value ledger) other) ≡ (is_some (row_of ledger other) || same_account who other)
known_by who other value ledger = elim (cases_Bool (same_account who other)) [
  | inl t ↦
      ap (λ (w : AccountId). is_some (row_of (endowed who value ledger) w)) (sym (same_exact who other t)) ∙ ap is_some (row_of-changed who (gained value) ledger)
      ∙ sym (or_right (is_some (row_of ledger other)) (same_account who other) t)
  | inr f ↦
      ap is_some (others_stay who (gained value) ledger other (λ e. true≢false (sym (same_itself who) ∙ ap (same_account who) (sym e) ∙ f)))
      ∙ sym (ap (λ b. is_some (row_of ledger other) || b) f ∙ or-false (is_some (row_of ledger other)))
]
