-- A list of accounts repeats one, or they are distinct.
use Rattle.std.proofs.Common.{◌≡◌, false, List, [], ◌∷◌, refl}
use Rattle.std.specs.List.{IsDistinct, AllByRecursion, list_any}
use Rattle.std.proofs.lemmas.Bool.{or_parts, or_from}
use Rattle.npos_base.specs.declared.account.AccountId.{AccountId}
use Rattle.npos_base.specs.Account.{same_account}
use Rattle.npos_base.proofs.AccountOrder.{same_turned}
use Rattle.voter_lists.specs.Roles.{has_repeated_account}

none_same : (x : AccountId) (xs : List AccountId) → list_any (λ other. same_account other x) xs ≡ false → AllByRecursion (λ y. same_account x y ≡ false) xs
none_same x [] e = tt
none_same x (y ∷ ys) e = (
  same_turned y x (or_parts (same_account y x) (list_any (λ other. same_account other x) ys) e).0,
  none_same x ys (or_parts (same_account y x) (list_any (λ other. same_account other x) ys) e).1,
)

same_none : (x : AccountId) (xs : List AccountId) → AllByRecursion (λ y. same_account x y ≡ false) xs → list_any (λ other. same_account other x) xs ≡ false
same_none x [] a = refl
same_none x (y ∷ ys) a = or_from (same_account y x) (list_any (λ other. same_account other x) ys) (same_turned x y a.0) (same_none x ys a.1)

pub distinct_from : (xs : List AccountId) → has_repeated_account xs ≡ false → IsDistinct same_account xs
unfolding IsDistinct
distinct_from [] e = tt
distinct_from (x ∷ xs) e = (
  none_same x xs (or_parts (list_any (λ other. same_account other x) xs) (has_repeated_account xs) e).0,
  distinct_from xs (or_parts (list_any (λ other. same_account other x) xs) (has_repeated_account xs) e).1,
)

pub distinct_to : (xs : List AccountId) → IsDistinct same_account xs → has_repeated_account xs ≡ false
unfolding IsDistinct
distinct_to [] d = refl
distinct_to (x ∷ xs) d = or_from (list_any (λ other. same_account other x) xs) (has_repeated_account xs) (same_none x xs d.0) (distinct_to xs d.1)
