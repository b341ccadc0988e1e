-- Where a search among rising accounts ends is the place of the account.
use Rattle.std.proofs.Common.{◌≡◌, ℕ, zero, suc, ◌+◌, ◌<◌, ◌≤◌, false, List, [], ◌∷◌, length, get_or, slice_get, Some, refl, ap, sym, ◌∙◌, arith, ◌⊎◌, inl, inr}
use Rattle.std.specs.BTreeMap.{is_at}
use Rattle.std.specs.BTreeSet.{insert_key}
use Rattle.std.specs.Set.{remove_key}
use Rattle.std.specs.List.{insert, remove}
use Rattle.std.specs.List.Sorted.{IsStrictlySortedBy}
use Rattle.std.specs.Ordering.{is_eq, ordering_reverse}
use Rattle.std.specs.declared.cmp.Ordering.{Ordering}
use Rattle.std.specs.declared.cmp.Ordering.TheVariants.{Less, Equal, Greater}
use Rattle.std.proofs.lemmas.Cmp.{tied_itself}
use Rattle.std.proofs.lemmas.Map.Keys.{Less-from_sorted}
use Rattle.std.proofs.lemmas.Option.{none-some, same_Some, get_or_from_slice_get, slice_get_within}
use Rattle.std.proofs.Math.Nat.{eq-or-lt_of_le}
use Rattle.std.proofs.lemmas.Bool.{cases_lt}
use Rattle.npos_base.specs.declared.account.AccountId.{AccountId}
use Rattle.npos_base.specs.Account.{account_cmp}
use Rattle.npos_base.proofs.AccountOrder.{account_total}
use Rattle.voter_lists.specs.RankedAt.{BelongsAt}
use Rattle.voter_lists.proofs.PlaceLemmas.{at_all}

module _ (who : AccountId) where
  turned : (x : AccountId) (r : Ordering) → account_cmp x who ≡ r → account_cmp who x ≡ ordering_reverse r
  turned x r e = account_total.antisymm who x ∙ ap ordering_reverse e

  -- ---- what one account tells of those before it or behind it

  module _ (xs : List AccountId) (rising : IsStrictlySortedBy account_cmp xs) (middle : ℕ) (x : AccountId) (there : slice_get xs middle ≡ Some x) where
    here : (d : AccountId) → get_or xs middle d ≡ x
    here d = get_or_from_slice_get xs middle x d there

    pub lower : account_cmp x who ≡ Less → (j : ℕ) (d : AccountId) → j < middle + 1 → account_cmp (get_or xs j d) who ≡ Less
    lower less j d before = let le : j ≤ middle = omega (arith, before) in by_gap (eq-or-lt_of_le le) where
      by_gap : (j ≡ middle) ⊎ (j < middle) → account_cmp (get_or xs j d) who ≡ Less
      by_gap (inl same) = ap (λ n. account_cmp (get_or xs n d) who) same ∙ ap (λ y. account_cmp y who) (here d) ∙ less
      by_gap (inr apart) = account_total.trans (get_or xs j d) x who (sym (ap (account_cmp (get_or xs j d)) (here d))
          ∙ Less-from_sorted account_cmp xs j middle d rising apart (slice_get_within xs middle x there)) less

    pub higher : account_cmp x who ≡ Greater → (j : ℕ) (d : AccountId) → middle ≤ j → j < length xs → account_cmp (get_or xs j d) who ≡ Greater
    higher greater j d behind below = by_gap (eq-or-lt_of_le behind) where
      by_gap : (middle ≡ j) ⊎ (middle < j) → account_cmp (get_or xs j d) who ≡ Greater
      by_gap (inl same) = ap (λ n. account_cmp (get_or xs n d) who) (sym same) ∙ ap (λ y. account_cmp y who) (here d) ∙ greater
      by_gap (inr apart) =
          account_total.antisymm (get_or xs j d) who
          ∙ ap ordering_reverse (account_total.trans who x (get_or xs j d) (turned x Greater greater)
          (sym (ap (λ y. account_cmp y (get_or xs j d)) (here d)) ∙ Less-from_sorted account_cmp xs middle j d rising apart below))

  -- ---- an account that is not there

  at_gap : (xs : List AccountId) (i : ℕ) → i ≤ length xs → ((j : ℕ) (d : AccountId) → j < i → account_cmp (get_or xs j d) who ≡ Less)
      → ((j : ℕ) (d : AccountId) → i ≤ j → j < length xs → account_cmp (get_or xs j d) who ≡ Greater) → insert xs i who ≡ insert_key account_cmp xs who
  at_gap [] zero h below above = refl
  at_gap [] (suc i) h below above = absurd (omega (arith, h))
  at_gap (x ∷ xs) zero h below above = rw (turned x Greater (above 0 x (omega arith) (omega arith))) refl
  at_gap (x ∷ xs) (suc i) h below above =
      rw (turned x Less (below 0 x (omega arith)))
      (ap (λ ys. x ∷ ys) (at_gap xs i (omega (arith, h)) (λ j d lt. below (suc j) d (omega (arith, lt))) (λ j d le lt. above (suc j) d (omega (arith, le)) (omega (arith, lt)))))

  -- it belongs where the search ends
  pub missed : (xs : List AccountId) (i : ℕ) → i ≤ length xs → BelongsAt who xs i → insert xs i who ≡ insert_key account_cmp xs who
  missed xs i h parts = at_gap xs i h (λ j d lt. parts.0 j d (omega arith) lt) (λ j d le lt. parts.1 j d le lt)

  pub missed_apart : (xs : List AccountId) (i : ℕ) → BelongsAt who xs i → (j : ℕ) (d : AccountId) → j < length xs → is_eq (account_cmp who (get_or xs j d)) ≡ false
  missed_apart xs i parts j d lt = by_side (cases_lt j i) where
    by_side : (j < i) ⊎ (i ≤ j) → is_eq (account_cmp who (get_or xs j d)) ≡ false
    by_side (inl low) = rw (turned (get_or xs j d) Less (parts.0 j d (omega arith) low)) refl
    by_side (inr high) = rw (turned (get_or xs j d) Greater (parts.1 j d high lt)) refl

  -- so it changes nothing to take it out
  pub missed_same : (xs : List AccountId) (i : ℕ) → BelongsAt who xs i → remove_key (is_at (account_cmp who)) xs ≡ xs
  missed_same xs i parts = none xs (missed_apart xs i parts) where
    none : (ys : List AccountId) → ((j : ℕ) (d : AccountId) → j < length ys → is_eq (account_cmp who (get_or ys j d)) ≡ false) → remove_key (is_at (account_cmp who)) ys ≡ ys
    none [] f = refl
    none (y ∷ ys) f = rw (f 0 y (omega arith)) (ap (λ zs. y ∷ zs) (none ys (λ j d lt. f (suc j) d (omega (arith, lt)))))

  -- ---- an account that is there

  first_tied : (x : AccountId) → Some x ≡ Some who → account_cmp who x ≡ Equal
  first_tied x there = ap (account_cmp who) (same_Some x who there) ∙ tied_itself account_total who

  pub hit : (xs : List AccountId) (i : ℕ) → IsStrictlySortedBy account_cmp xs → slice_get xs i ≡ Some who → remove xs i ≡ remove_key (is_at (account_cmp who)) xs
  unfolding IsStrictlySortedBy
  hit [] i rising there = absurd (none-some who there)
  hit (x ∷ xs) zero rising there = rw (first_tied x there) refl
  hit (x ∷ xs) (suc i) rising there =
      rw (turned x Less (at_all (λ y. account_cmp x y ≡ Less) xs i who rising.0 there)) (ap (λ ys. x ∷ ys) (hit xs i rising.1 there))

  -- so it changes nothing to put it in
  pub hit_same : (xs : List AccountId) (i : ℕ) → IsStrictlySortedBy account_cmp xs → slice_get xs i ≡ Some who → insert_key account_cmp xs who ≡ xs
  unfolding IsStrictlySortedBy
  hit_same [] i rising there = absurd (none-some who there)
  hit_same (x ∷ xs) zero rising there = rw (first_tied x there) refl
  hit_same (x ∷ xs) (suc i) rising there =
      rw (turned x Less (at_all (λ y. account_cmp x y ≡ Less) xs i who rising.0 there)) (ap (λ ys. x ∷ ys) (hit_same xs i rising.1 there))
