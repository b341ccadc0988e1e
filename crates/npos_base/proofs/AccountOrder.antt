-- Accounts stand in a total order, which tells any two of them apart.
use Rattle.std.proofs.Common.{◌≡◌, ◌≢◌, ℕ, true, false, nat_eq, refl, ap, ap₂, sym, ◌∙◌, true≢false}
use Rattle.std.specs.Cmp.{IsTotalOrder}
use Rattle.std.specs.Ordering.{nat_cmp, is_eq}
use Rattle.std.specs.declared.cmp.Ordering.{Ordering}
use Rattle.std.specs.declared.cmp.Ordering.TheVariants.{Less, Equal, Greater}
use Rattle.std.proofs.lemmas.Bool.{and_parts, false_from_ne_true}
use Rattle.std.proofs.lemmas.Cmp.{then_total, on_total, nat_cmp_total}
use Rattle.std.proofs.lemmas.Map.Lookups.{exact_pairs, exact_unsigned}
use Rattle.npos_base.specs.declared.account.AccountId.{AccountId}
use Rattle.npos_base.specs.Account.{account_cmp, same_account}
use Rattle.npos_base.proofs.NumberTests.{number_same, number_tie}

pub account_total : IsTotalOrder account_cmp
account_total = then_total (on_total (λ (a : AccountId). a.hi) nat_cmp_total) (on_total (λ (a : AccountId). a.lo) nat_cmp_total)

-- accounts that compare equal are the same
pub account_exact : (x y : AccountId) → account_cmp x y ≡ Equal → x ≡ y
account_exact x y e =
    ap (λ (p : ℕ × ℕ). record { hi = p.0; lo = p.1 }) (exact_pairs nat_cmp nat_cmp exact_unsigned exact_unsigned (x.hi, x.lo) (y.hi, y.lo) e)

-- different accounts do not compare equal
pub account_apart : (x y : AccountId) → x ≢ y → is_eq (account_cmp x y) ≡ false
account_apart x y differ = by_order (account_cmp x y) refl where
  by_order : (r : Ordering) → account_cmp x y ≡ r → is_eq r ≡ false
  by_order Less e = refl
  by_order Equal e = absurd (differ (account_exact x y e))
  by_order Greater e = refl

-- the test tells accounts apart exactly
pub same_exact : (x y : AccountId) → same_account x y ≡ true → x ≡ y
same_exact x y e = ap₂ (λ hi lo. record { hi = hi; lo = lo })
    (number_tie x.hi y.hi (and_parts (nat_eq x.hi y.hi) (nat_eq x.lo y.lo) e).0)
    (number_tie x.lo y.lo (and_parts (nat_eq x.hi y.hi) (nat_eq x.lo y.lo) e).1)

pub same_itself : (x : AccountId) → same_account x x ≡ true
same_itself x = rw (number_same x.hi, number_same x.lo) refl

-- the test is the same both ways round
pub same_turned : (x y : AccountId) → same_account x y ≡ false → same_account y x ≡ false
same_turned x y e = false_from_ne_true (same_account y x) (λ is. true≢false (sym (same_itself x) ∙ ap (λ z. same_account x z) (sym (same_exact y x is)) ∙ e))

-- the order answers Equal exactly where the test says so
pub same_ordered : (x y : AccountId) → same_account x y ≡ false → is_eq (account_cmp y x) ≡ false
same_ordered x y e = account_apart y x (λ is. true≢false (sym (same_itself x) ∙ ap (λ z. same_account x z) (sym is) ∙ e))
