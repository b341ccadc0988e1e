-- The place of an account among rising accounts.
use Rattle.std.proofs.Common.{◌≡◌, ℕ, zero, suc, ◌+◌, ◌<◌, Bool, true, false, List, [], ◌∷◌, length, get_or, refl, ap, sym, ◌∙◌, arith, Some, None, slice_get, true≢false, is_some, if◌then◌else◌}
use Rattle.std.specs.Prelude.{position}
use Rattle.std.specs.List.{position_from}
use Rattle.std.proofs.lemmas.Iterator.Adapters.{position_from-zero}
use Rattle.std.specs.List.{AllByRecursion}
use Rattle.std.specs.List.Sorted.{IsStrictlySortedBy}
use Rattle.std.specs.Ordering.{is_eq}
use Rattle.std.specs.declared.cmp.Ordering.TheVariants.{Less, Equal}
use Rattle.std.proofs.lemmas.Cmp.{tied_itself}
use Rattle.npos_base.specs.declared.account.AccountId.{AccountId}
use Rattle.npos_base.specs.Account.{account_cmp, same_account}
use Rattle.npos_base.proofs.AccountOrder.{account_total, account_apart, same_itself, same_exact}
use Rattle.std.specs.Map.{keys_of}
use Rattle.voter_lists.specs.Roles.{RoleList, validators_of, is_validator, is_validator_in, is_validator_standing}
use Rattle.voter_lists.proofs.ValidatorLemmas.{unlisted, all_same}

pub at_all : (P : AccountId → Type 0) (xs : List AccountId) (i : ℕ) (who : AccountId) → AllByRecursion P xs → slice_get xs i ≡ Some who → P who
at_all P [] i who all there = absurd (cc)
at_all P (x ∷ xs) zero who all there = let same : x ≡ who = cc in rw (← same) all.0
at_all P (x ∷ xs) (suc i) who all there = at_all P xs i who all.1 there

itself : (x : AccountId) → is_eq (account_cmp x x) ≡ true
itself x = ap is_eq (tied_itself account_total x)

-- the test tells a lower account apart
pub below_apart : (x who : AccountId) → account_cmp x who ≡ Less → same_account who x ≡ false
below_apart x who below = by_test (same_account who x) refl where
  by_test : (t : Bool) → same_account who x ≡ t → t ≡ false
  by_test true same =
      let one : who ≡ x = same_exact who x same in
      let less : account_cmp x x ≡ Less = ap (λ y. account_cmp x y) (sym one) ∙ below in
      absurd (true≢false (sym (itself x) ∙ ap is_eq less))
  by_test false same = refl

place_from : (who : AccountId) (first : ℕ) (xs : List AccountId) (i : ℕ) → IsStrictlySortedBy account_cmp xs → slice_get xs i ≡ Some who
    → position_from (same_account who) first xs ≡ Some (first + i)
unfolding IsStrictlySortedBy
place_from who first [] i rising there = absurd (cc)
place_from who first (x ∷ xs) zero rising there =
    let same : x ≡ who = cc in rw (same, same_itself who) (ap (λ (n : ℕ). Some n) (omega arith))
place_from who first (x ∷ xs) (suc i) rising there =
    rw (below_apart x who (at_all (λ y. account_cmp x y ≡ Less) xs i who rising.0 there))
    (place_from who (first + 1) xs i rising.1 there ∙ ap (λ (n : ℕ). Some n) (omega arith))

-- the account that stands at a place has that place
pub place_is : (who : AccountId) (xs : List AccountId) (i : ℕ) → IsStrictlySortedBy account_cmp xs → slice_get xs i ≡ Some who
    → position (same_account who) xs ≡ Some i
place_is who xs i rising there =
    position_from-zero (same_account who) xs ∙ (place_from who 0 xs i rising there ∙ ap (λ (n : ℕ). Some n) (omega arith))

no_place_from : (who : AccountId) (first : ℕ) (xs : List AccountId) → ((j : ℕ) (d : AccountId) → j < length xs → is_eq (account_cmp who (get_or xs j d)) ≡ false)
    → position_from (same_account who) first xs ≡ None
no_place_from who first [] apart = refl
no_place_from who first (x ∷ xs) apart =
    rw (by_test (same_account who x) refl) (no_place_from who (first + 1) xs (λ j d lt. apart (suc j) d (omega (arith, lt)))) where
      by_test : (t : Bool) → same_account who x ≡ t → t ≡ false
      by_test true same = absurd (true≢false (sym (itself who) ∙ (ap (λ y. is_eq (account_cmp who y)) (same_exact who x same) ∙ apart 0 x (omega arith))))
      by_test false same = refl

-- an account that compares equal with none has no place
pub no_place : (who : AccountId) (xs : List AccountId) → ((j : ℕ) (d : AccountId) → j < length xs → is_eq (account_cmp who (get_or xs j d)) ≡ false)
    → position (same_account who) xs ≡ None
no_place who xs apart = position_from-zero (same_account who) xs ∙ no_place_from who 0 xs apart

-- An account has a place among the validators exactly where it is one of them.
module _ (who : AccountId) where
  abbrev pub IsTested : RoleList → ℕ → Type 0
  IsTested rows first = is_some (position_from (same_account who) first (validators_of rows)) ≡ is_validator rows who

  pub ranked_test : (rows : RoleList) → IsStrictlySortedBy account_cmp (keys_of rows) → (first : ℕ) → IsTested rows first
  unfolding IsStrictlySortedBy
  ranked_test [] s first = refl
  ranked_test (row ∷ rows) s first = by_test (same_account who row.0) refl (ranked_test rows s.1) where
    by_test : (t : Bool) → same_account who row.0 ≡ t → ((n : ℕ) → IsTested rows n) → IsTested (row ∷ rows) first
    by_test true same later = rw tied (at (is_validator_standing row.1)) where
      tied : account_cmp who row.0 ≡ Equal
      tied = ap (λ y. account_cmp who y) (sym (same_exact who row.0 same)) ∙ tied_itself account_total who

      at : (valid : Bool) → is_some (position_from (same_account who) first (if valid then row.0 ∷ validators_of rows else validators_of rows)) ≡ valid
      at true = rw same refl
      at false = later first ∙ ap is_validator_in (unlisted who rows (all_same who row.0 (keys_of rows) tied s.0))
    by_test false other later = rw apart (at (is_validator_standing row.1)) where
      apart : is_eq (account_cmp who row.0) ≡ false
      apart = account_apart who row.0 (λ e. true≢false (sym (same_itself who) ∙ (ap (λ z. same_account who z) e ∙ other)))

      at : (valid : Bool) → is_some (position_from (same_account who) first (if valid then row.0 ∷ validators_of rows else validators_of rows)) ≡ is_validator rows who
      at true = rw other (later (first + 1))
      at false = later first

pub rank_tells : (who : AccountId) (rows : RoleList) → IsStrictlySortedBy account_cmp (keys_of rows)
    → is_some (position (same_account who) (validators_of rows)) ≡ is_validator rows who
rank_tells who rows s = ap is_some (position_from-zero (same_account who) (validators_of rows)) ∙ ranked_test who rows s 0
