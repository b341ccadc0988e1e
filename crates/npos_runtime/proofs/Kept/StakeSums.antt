-- The stakes of accounts of which none stands twice are no more than what is active in all rows.
use Rattle.std.proofs.Common.{◌≡◌, ℕ, zero, suc, ◌+◌, ◌*◌, ◌≤◌, false, List, [], ◌∷◌, sum_by, refl, sym, ◌∙◌, ap, subst, arith}
use Rattle.std.specs.Map.{values_of}
use Rattle.std.proofs.lemmas.List.Sums.{sum_by-cons}
use Rattle.std.proofs.lemmas.Cmp.{tied_itself}
use Rattle.npos_base.specs.declared.account.AccountId.{AccountId}
use Rattle.npos_base.specs.Account.{same_account}
use Rattle.npos_base.proofs.AccountOrder.{account_total, same_itself, same_ordered, same_turned}
use Rattle.stake_ledger.specs.declared.row.Row.{Row}
use Rattle.stake_ledger.specs.Ledger.{row_in}
use Rattle.npos_runtime.specs.Live.{IsOnce, times}
use Rattle.npos_runtime.proofs.Rules.ListLemmas.{one, times_cons, by_account}

grown : (n r s t u v : ℕ) → s ≤ n * r + t → u ≡ r → u + s ≤ (1 + n) * r + (v + t)
grown n r s t u v p q = omega (arith, p, q)

kept : (n r s t u v : ℕ) → s ≤ n * r + t → u ≡ v → u + s ≤ (0 + n) * r + (v + t)
kept n r s t u v p q = omega (arith, p, q)

most : (n r s t v : ℕ) → n ≤ 1 → s ≤ n * r + t → t ≤ v → s ≤ r + v
most zero r s t v once p q = omega (arith, p, q)
most (suc zero) r s t v once p q = omega (arith, p, q)
most (suc (suc n)) r s t v once p q = absurd (omega (arith, once))

module _ (key : AccountId) (row : Row) (rows : List (AccountId × Row)) where
  at_key : (x : AccountId) → x ≡ key → (row_in ((key, row) ∷ rows) x).active ≡ row.active
  at_key x same = subst (λ (y : AccountId). (row_in ((key, row) ∷ rows) y).active ≡ row.active) (sym same) (rw (tied_itself account_total key) refl)

  at_other : (x : AccountId) → same_account x key ≡ false → (row_in ((key, row) ∷ rows) x).active ≡ (row_in rows x).active
  at_other x apart = rw (same_ordered key x (same_turned x key apart)) refl

  share : (accounts : List AccountId)
      → sum_by (λ who. (row_in ((key, row) ∷ rows) who).active) accounts ≤ times key accounts * row.active + sum_by (λ who. (row_in rows who).active) accounts
  share [] = omega arith
  share (a ∷ more) =
      rw (times_cons key a more, sum_by-cons (λ who. (row_in ((key, row) ∷ rows) who).active) a more, sum_by-cons (λ who. (row_in rows who).active) a more)
      (by_account a key
      (λ same. let z : one (same_account a key) ≡ 1 = ap (λ (x : AccountId). one (same_account x key)) same ∙ ap (λ b. one b) (same_itself key) in
      rw z (grown (times key more) row.active _ _ _ _ (share more) (at_key a same)))
      (λ apart. let z : one (same_account a key) ≡ 0 = ap (λ b. one b) apart in
      rw z (kept (times key more) row.active _ _ _ _ (share more) (at_other a apart))))

none_active : (accounts : List AccountId) → sum_by (λ who. (row_in [] who).active) accounts ≤ 0
none_active [] = omega arith
none_active (a ∷ more) = rw (sum_by-cons (λ who. (row_in [] who).active) a more) (omega (arith, none_active more))

-- the stakes of accounts of which none stands twice sum to no more than what is active in all rows
pub stakes_fit : (rows : List (AccountId × Row)) (accounts : List AccountId) → IsOnce accounts
    → sum_by (λ who. (row_in rows who).active) accounts ≤ sum_by (λ row. row.active) (values_of rows)
stakes_fit [] accounts once = none_active accounts
stakes_fit (entry ∷ rows) accounts once =
    rw (sum_by-cons (λ (row : Row). row.active) entry.1 (values_of rows))
    (most (times entry.0 accounts) entry.1.active _ _ _ (once entry.0) (share entry.0 entry.1 rows accounts) (stakes_fit rows accounts once))
