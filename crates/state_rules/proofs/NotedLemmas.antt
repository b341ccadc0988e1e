-- One more account is noted.
use Rattle.std.proofs.Common.{◌≡◌, Bool, true, false, ◌||◌, List, [], ◌∷◌, ◌++◌, is_some, refl, sym, ◌∙◌, ap}
use Rattle.std.specs.BTreeMap.{insert_entry, is_at}
use Rattle.std.specs.Map.{lookup}
use Rattle.std.proofs.lemmas.List.Folds.{list_any-append}
use Rattle.npos_base.specs.declared.account.AccountId.{AccountId}
use Rattle.npos_base.specs.Account.{account_cmp, same_account}
use Rattle.npos_base.proofs.AccountOrder.{account_total, same_exact, same_ordered}
use Rattle.npos_base.proofs.EntryLemmas.{lookup_put, lookup_other}
use Rattle.state_rules.specs.Accounts.{stands_in, AreNoted}

or-true : (a : Bool) → (a || true) ≡ true
or-true true = refl
or-true false = refl

or-false : (a : Bool) → (a || false) ≡ a
or-false true = refl
or-false false = refl

pub stands_more : (accounts : List AccountId) (who other : AccountId) → stands_in (accounts ++ who ∷ []) other ≡ (stands_in accounts other || same_account who other)
stands_more accounts who other =
    list_any-append (λ account. same_account account other) accounts (who ∷ []) ∙ ap (λ b. stands_in accounts other || b) (or-false (same_account who other))

pub noted_more : {V : Type 0} → (entries : List (AccountId × V)) (value : V) (accounts : List AccountId) (who : AccountId)
    → AreNoted entries accounts → AreNoted (insert_entry account_cmp entries who value) (accounts ++ who ∷ [])
noted_more entries value accounts who noted other = at (same_account who other) refl where
  at : (b : Bool) → same_account who other ≡ b
      → is_some (lookup (is_at (account_cmp other)) (insert_entry account_cmp entries who value)) ≡ stands_in (accounts ++ who ∷ []) other
  at true e =
      ap (λ (w : AccountId). is_some (lookup (is_at (account_cmp w)) (insert_entry account_cmp entries who value))) (sym (same_exact who other e))
      ∙ (ap is_some (lookup_put account_total who value entries)
      ∙ sym (stands_more accounts who other ∙ (ap (λ b. stands_in accounts other || b) e ∙ or-true (stands_in accounts other))))
  at false e =
      ap is_some (lookup_other account_total who value other entries (same_ordered who other e))
      ∙ (noted other ∙ sym (stands_more accounts who other ∙ (ap (λ b. stands_in accounts other || b) e ∙ or-false (stands_in accounts other))))

-- an account that was noted is noted again
pub noted_again : {V : Type 0} → (entries : List (AccountId × V)) (accounts : List AccountId) (who : AccountId)
    → AreNoted entries accounts → is_some (lookup (is_at (account_cmp who)) entries) ≡ true
    → AreNoted entries (accounts ++ who ∷ [])
noted_again entries accounts who noted stood other = noted other ∙ sym (stands_more accounts who other ∙ at (same_account who other) refl) where
  at : (b : Bool) → same_account who other ≡ b → (stands_in accounts other || same_account who other) ≡ stands_in accounts other
  at true e =
      ap (λ b. stands_in accounts other || b) e
      ∙ (or-true (stands_in accounts other)
      ∙ sym (ap (stands_in accounts) (sym (same_exact who other e)) ∙ (sym (noted who) ∙ stood)))
  at false e = ap (λ b. stands_in accounts other || b) e ∙ or-false (stands_in accounts other)
