-- What a binary search among rows by rising account finds.
use Rattle.std.proofs.Common.{◌≡◌, ◌⊎◌, inl, inr, ℕ, zero, suc, ◌+◌, ◌<◌, ◌≤◌, Bool, true, false, ◌||◌, nat_lt, List, []}
use Rattle.std.proofs.Common.{◌∷◌, map, cond, is_some, Some, None, Err, refl, sym, ◌∙◌, ap, subst, arith, length, get_or}
use Rattle.std.specs.List.{list_any, AllByRecursion, HoldsAt}
use Rattle.std.specs.List.Sorted.{IsStrictlySortedBy, IsNonDecreasingBy, IsBinarySearchResult, IsPartitionPoint}
use Rattle.std.specs.Ordering.{ordering_index, ordering_reverse}
use Rattle.std.specs.declared.cmp.Ordering.{Ordering}
use Rattle.std.specs.declared.cmp.Ordering.TheVariants.{Less, Equal, Greater}
use Rattle.std.proofs.Math.Nat.{eq-or-lt_of_le}
use Rattle.std.proofs.lemmas.Bool.{cases_lt}
use Rattle.std.proofs.lemmas.Bool.Decides.{nat_tests}
use Rattle.std.proofs.lemmas.Cmp.{tied_itself}
use Rattle.std.proofs.lemmas.List.Sums.{sum_by-cons}
use Rattle.npos_base.specs.declared.account.AccountId.{AccountId}
use Rattle.npos_base.specs.Account.{account_cmp, same_account}
use Rattle.npos_base.proofs.AccountOrder.{account_total, account_exact, same_exact, same_itself}
use Rattle.stake_ledger.specs.declared.book_row.BookRow.{BookRow}
use Rattle.stake_ledger.specs.declared.chunks.Chunk.{Chunk}
use Rattle.stake_ledger.specs.Chunks.{chunk_sum}
use Rattle.state_rules.specs.Known.{row_of, has_row, is_bonded, AreByAccount}
use Rattle.state_rules.specs.Accounts.{stands_in}

turned : (x y : AccountId) (r : Ordering) → account_cmp x y ≡ r → account_cmp y x ≡ ordering_reverse r
turned x y r e = account_total.antisymm y x ∙ ap ordering_reverse e

-- accounts that do not compare equal are not the same
apart : (x y : AccountId) (r : Ordering) → account_cmp x y ≡ r → (r ≡ Equal → ⊥) → same_account x y ≡ false
apart x y r e differ = at (same_account x y) refl where
  at : (b : Bool) → same_account x y ≡ b → b ≡ false
  at true same = absurd (differ (sym e ∙ (ap (account_cmp x) (sym (same_exact x y same)) ∙ tied_itself account_total x)))
  at false same = refl

below_at : (P : AccountId → Type 0) (rows : List BookRow) (i : ℕ) (d : BookRow) → AllByRecursion P (map (λ row. row.who) rows) → i < length rows → P (get_or rows i d).who
below_at P [] i d all h = absurd (omega (arith, h))
below_at P (row ∷ rows) zero d all h = all.0
below_at P (row ∷ rows) (suc i) d all h = below_at P rows i d all.1 (omega (arith, h))

-- an earlier row is of a lower account
pub earlier_below : (rows : List BookRow) (i j : ℕ) (d : BookRow) → AreByAccount rows → i < j → j < length rows
    → account_cmp (get_or rows i d).who (get_or rows j d).who ≡ Less
unfolding IsStrictlySortedBy
earlier_below [] i j d s lt h = absurd (omega (arith, h))
earlier_below (row ∷ rows) i zero d s lt h = absurd (omega (arith, lt))
earlier_below (row ∷ rows) zero (suc j) d s lt h = below_at (λ y. account_cmp row.who y ≡ Less) rows j d s.0 (omega (arith, h))
earlier_below (row ∷ rows) (suc i) (suc j) d s lt h = earlier_below rows i j d s.1 (omega (arith, lt)) (omega (arith, h))

more : (a b : ℕ) → nat_lt 0 (a + b) ≡ (nat_lt 0 a || nat_lt 0 b)
more a b = grind (arith, nat_tests)

pub chunk_above : (chunks : List Chunk) → list_any (λ chunk. nat_lt 0 chunk.value) chunks ≡ nat_lt 0 (chunk_sum chunks)
chunk_above [] = refl
chunk_above (chunk ∷ later) =
    ap (λ b. nat_lt 0 chunk.value || b) (chunk_above later)
    ∙ (sym (more chunk.value (chunk_sum later)) ∙ ap (nat_lt 0) (sym (sum_by-cons (λ (c : Chunk). c.value) chunk later)))

-- a row is bonded by what is active, or by a chunk
pub bonded_row : (row : BookRow) → (nat_lt 0 row.active || list_any (λ chunk. nat_lt 0 chunk.value) row.chunks) ≡ is_bonded (Some row)
bonded_row row = ap (λ b. nat_lt 0 row.active || b) (chunk_above row.chunks) ∙ sym (more row.active (chunk_sum row.chunks))

module _ (who : AccountId) where
  later : (x y : AccountId) → account_cmp x y ≡ Less → ordering_index (account_cmp x who) ≤ ordering_index (account_cmp y who)
  later x y below = by_first (account_cmp x who) refl where
    by_first : (r : Ordering) → account_cmp x who ≡ r → ordering_index r ≤ ordering_index (account_cmp y who)
    by_first Less e = omega arith
    by_first Equal e = rw (turned who y Less (sym (account_total.congr x who y e) ∙ below)) (omega arith)
    by_first Greater e = rw (turned who y Less (account_total.trans who x y (turned x who Greater e) below)) (omega arith)

  rising : (rows : List BookRow) → AreByAccount rows → IsNonDecreasingBy (λ row. ordering_index (account_cmp row.who who)) rows
  rising rows s i j d le below = by_gap (eq-or-lt_of_le le) where
    by_gap : (i ≡ j) ⊎ (i < j) → ordering_index (account_cmp (get_or rows i d).who who) ≤ ordering_index (account_cmp (get_or rows j d).who who)
    by_gap (inr less) = later (get_or rows i d).who (get_or rows j d).who (earlier_below rows i j d s less below)
    by_gap (inl same) = subst (λ n. ordering_index (account_cmp (get_or rows i d).who who) ≤ ordering_index (account_cmp (get_or rows n d).who who)) same (omega arith)

  -- the row at a place where the search hits is that of the account
  pub hit : (rows : List BookRow) (i : ℕ) (d : BookRow) → i < length rows → AreByAccount rows → HoldsAt (λ row. account_cmp row.who who ≡ Equal) rows i
      → row_of rows who ≡ Some (get_or rows i d)
  unfolding IsStrictlySortedBy
  hit [] i d h s here = absurd (omega (arith, h))
  hit (row ∷ rows) zero d h s here =
      rw (ap (λ (x : AccountId). same_account x who) (account_exact row.who who (here row)) ∙ same_itself who) refl
  hit (row ∷ rows) (suc i) d h s here =
      let found : (get_or rows i row).who ≡ who = account_exact (get_or rows i row).who who (here row) in
      let below : account_cmp row.who who ≡ Less = ap (account_cmp row.who) (sym found) ∙ below_at (λ y. account_cmp row.who y ≡ Less) rows i row s.0 (omega (arith, h)) in
      rw (apart row.who who Less below (λ e. cc)) (hit rows i d (omega (arith, h)) s.1 here)

  none : (rows : List BookRow) → ((j : ℕ) (d : BookRow) → j < length rows → same_account (get_or rows j d).who who ≡ false) → row_of rows who ≡ None
  none [] f = refl
  none (row ∷ rows) f = rw (f 0 row (omega arith)) (none rows (λ j d lt. f (suc j) d (omega (arith, lt))))

  -- where the search misses, the account has no row
  pub missed : (rows : List BookRow) (i : ℕ) → i ≤ length rows → AreByAccount rows → IsBinarySearchResult (λ row. account_cmp row.who who) rows (Err i)
      → row_of rows who ≡ None
  missed rows i h s search_is = none rows (λ j d lt. by_side j d lt (cases_lt j i)) where
    parts : IsPartitionPoint (λ row. account_cmp row.who who ≡ Less) (λ row. account_cmp row.who who ≡ Greater) rows i
    parts = search_is (rising rows s)

    by_side : (j : ℕ) (d : BookRow) → j < length rows → (j < i) ⊎ (i ≤ j) → same_account (get_or rows j d).who who ≡ false
    by_side j d lt (inl low) = apart (get_or rows j d).who who Less (parts.0 j d (omega arith) low) (λ e. cc)
    by_side j d lt (inr high) = apart (get_or rows j d).who who Greater (parts.1 j d high lt) (λ e. cc)

-- an account has a row where it is the account of one
pub has_row_stands : (rows : List BookRow) (who : AccountId) → stands_in (map (λ row. row.who) rows) who ≡ has_row rows who
has_row_stands [] who = refl
has_row_stands (row ∷ rows) who = at (same_account row.who who) (has_row_stands rows who) where
  at : (b : Bool) → stands_in (map (λ r. r.who) rows) who ≡ has_row rows who
      → (b || stands_in (map (λ r. r.who) rows) who) ≡ is_some (cond b (Some row) (row_of rows who))
  at true rest = refl
  at false rest = rest
