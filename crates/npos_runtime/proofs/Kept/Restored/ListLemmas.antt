-- Lists of which each item stands so to those before it: what holds of any two items, and of all.
use Rattle.std.proofs.Common.{◌≡◌, ℕ, zero, suc, ◌+◌, ◌≤◌, ◌<◌, Bool, true, false, not, nat_lt, All, List, [], ◌∷◌, length, map, take, sum_by, get_or, refl, ap, sym, subst, ◌∙◌, arith}
use Rattle.std.specs.List.{list_any, AllPairs, IsDistinct}
use Rattle.std.specs.List.Sorted.{IsStrictlySortedBy, IsStrictlyIncreasing}
use Rattle.std.specs.Ordering.{is_lt}
use Rattle.std.specs.declared.cmp.Ordering.{Ordering}
use Rattle.std.specs.declared.cmp.Ordering.TheVariants.{Less, Equal, Greater}
use Rattle.std.proofs.lemmas.Bool.Decides.{nat_tests}
use Rattle.std.proofs.lemmas.List.{take_more}
use Rattle.std.proofs.lemmas.List.Elements.{All-nil, All-cons, All-map, recursion_from_All}
use Rattle.std.proofs.lemmas.List.Kept.{AllPairs-cons}
use Rattle.std.proofs.lemmas.List.Sums.{sum_by-cons}
use Rattle.std.proofs.lemmas.Bool.{or_parts}
use Rattle.npos_base.specs.declared.account.AccountId.{AccountId}
use Rattle.npos_base.specs.Account.{account_cmp, same_account}
use Rattle.npos_base.proofs.AccountOrder.{account_total}
use Rattle.state_rules.specs.Lists.{has_bad, bad_place, follows, stands_behind, is_rising}
use Rattle.state_rules.specs.Accounts.{stands_in, is_below}
use Rattle.state_rules.specs.Sound.{EachIs}
use Rattle.state_rules.proofs.SoundLemmas.{each_is, no_place, holds}
use Rattle.state_rules.proofs.RowLemmas.{last_put}

-- ## Tests that no item passes

pub none_passes : {A : Type 0} (test : A → Bool) (items : List A) → list_any test items ≡ false → All (λ item. test item ≡ false) items
none_passes test [] none = All-nil (λ item. test item ≡ false)
none_passes test (item ∷ items) none =
    let both = or_parts (test item) (list_any test items) none in
    All-cons (λ item. test item ≡ false) item items both.0 (none_passes test items both.1)

-- a list without a bad item is one of which each item is good
pub none_bad : {A : Type 0} (bad : List A → A → Bool) (items : List A) → has_bad bad items ≡ false → EachIs (λ before item. bad before item ≡ false) items
none_bad bad items none = each_is bad (λ before item. bad before item ≡ false) items (λ before item good. good) (no_place (bad_place bad items) none)

-- ## Items behind those before them

-- where each item follows the one before, and that carries on, any earlier item stands so to any later one
module _ {A : Type 0} (Before : A → A → Type 0) (on : (first next later : A) → Before first next → Before next later → Before first later) where
  stepped : (items : List A) → ((place : ℕ) (d : A) → suc place < length items → Before (get_or items place d) (get_or items (suc place) d)) → AllPairs Before items
  stepped items step i zero d lt within = absurd (omega (arith, lt))
  stepped items step i (suc j) d lt within = at (nat_lt i j) refl (stepped items step i j d) where
    at : (b : Bool) → nat_lt i j ≡ b → (i < j → j < length items → Before (get_or items i d) (get_or items j d))
        → Before (get_or items i d) (get_or items (suc j) d)
    at true is rest =
        on (get_or items i d) (get_or items j d) (get_or items (suc j) d) (rest (grind (arith, nat_tests, is)) (omega (arith, within))) (step j d within)
    at false is rest =
        let same : i ≡ j = grind (arith, nat_tests, is, lt) in
        subst (λ (n : ℕ). Before (get_or items n d) (get_or items (suc j) d)) (sym same) (step j d within)

  pub follow_pairs : (precedes : A → A → Bool) → ((first later : A) → precedes first later ≡ true → Before first later)
      → (items : List A) → EachIs (λ before item. follows precedes before item ≡ true) items → AllPairs Before items
  follow_pairs precedes told items each =
      stepped items (λ place d within.
      let next : suc place ≡ place + 1 = omega arith in
      told (get_or items place d) (get_or items (suc place) d)
      (sym (ap (λ last. stands_behind precedes last (get_or items (suc place) d)) (last_put (take place items) (get_or items place d)))
      ∙ subst (λ before. follows precedes before (get_or items (suc place) d) ≡ true)
      (ap (λ (n : ℕ). take n items) next ∙ take_more items place d (omega (arith, within))) (each (suc place) d within)))

-- where no item before it is alike, no two are
pub apart_pairs : {A : Type 0} (alike : A → A → Bool) (items : List A) → EachIs (λ before item. list_any (λ earlier. alike earlier item) before ≡ false) items
    → AllPairs (λ first later. alike first later ≡ false) items
apart_pairs alike [] each = λ i j d lt within. absurd (omega (arith, within))
apart_pairs alike (item ∷ items) each =
    AllPairs-cons (λ first later. alike first later ≡ false) item items
    (λ k d few. (or_parts (alike item (get_or items k d)) (list_any (λ earlier. alike earlier (get_or items k d)) (take k items)) (each (suc k) d (omega (arith, few)))).0)
    (apart_pairs alike items (λ k d few. (or_parts (alike item (get_or items k d)) (list_any (λ earlier. alike earlier (get_or items k d)) (take k items)) (each (suc k) d (omega (arith, few)))).1))

module _ {A : Type 0} (account : A → AccountId) where
  -- items none of whose accounts stands before it have different accounts
  pub new_distinct : (items : List A) → EachIs (λ before item. stands_in (map account before) (account item) ≡ false) items
      → IsDistinct same_account (map account items)
  unfolding IsDistinct
  new_distinct [] each = tt
  new_distinct (item ∷ items) each = (
    recursion_from_All (λ other. same_account (account item) other ≡ false) (map account items)
        (All-map (λ other. same_account (account item) other ≡ false) account items (λ k d few. (behind k d few).0)),
    new_distinct items (λ k d few. (behind k d few).1),
  ) where
    behind : (k : ℕ) (d : A) → k < length items
        → (same_account (account item) (account (get_or items k d)) ≡ false) × (stands_in (map account (take k items)) (account (get_or items k d)) ≡ false)
    behind k d few =
        or_parts (same_account (account item) (account (get_or items k d))) (stands_in (map account (take k items)) (account (get_or items k d)))
        (each (suc k) d (omega (arith, few)))

  -- items of which each earlier account is below each later one stand by rising account
  pub pairs_sorted : (items : List A) → AllPairs (λ first later. account_cmp (account first) (account later) ≡ Less) items
      → IsStrictlySortedBy account_cmp (map account items)
  unfolding IsStrictlySortedBy
  pairs_sorted [] pairs = tt
  pairs_sorted (item ∷ items) pairs = (
    recursion_from_All (λ other. account_cmp (account item) other ≡ Less) (map account items)
        (All-map (λ other. account_cmp (account item) other ≡ Less) account items (λ k d few. pairs 0 (suc k) d (omega arith) (omega (arith, few)))),
    pairs_sorted items (λ i j d lt few. pairs (suc i) (suc j) d (omega (arith, lt)) (omega (arith, few))),
  )

  pub rows_sorted : (items : List A) → EachIs (λ before item. follows (λ earlier later. is_below (account earlier) (account later)) before item ≡ true) items
      → IsStrictlySortedBy account_cmp (map account items)
  rows_sorted items each =
      pairs_sorted items
      (follow_pairs (λ first later. account_cmp (account first) (account later) ≡ Less)
      (λ first next later one two. account_total.trans (account first) (account next) (account later) one two)
      (λ earlier later. is_below (account earlier) (account later)) (λ first later is. less (account_cmp (account first) (account later)) is) items each) where
        less : (r : Ordering) → is_lt r ≡ true → r ≡ Less
        less Less e = refl
        less Equal e = cc
        less Greater e = cc

-- accounts none of which stands before it are different
pub each_new : (accounts : List AccountId) → has_bad stands_in accounts ≡ false → IsDistinct same_account accounts
each_new accounts none =
    subst (IsDistinct same_account) (same_list accounts)
    (new_distinct (λ (who : AccountId). who) accounts
    (λ k d few.
    ap (λ (before : List AccountId). stands_in before (get_or accounts k d)) (same_list (take k accounts)) ∙ none_bad stands_in accounts none k d few)) where
      same_list : (all : List AccountId) → map (λ (who : AccountId). who) all ≡ all
      same_list [] = refl
      same_list (one ∷ all) = ap (λ l. one ∷ l) (same_list all)

-- ## Rising lists

-- where each item precedes the next one, any earlier item precedes any later one
pub rising_pairs : {A : Type 0} (precedes : A → A → Bool) → ((first next later : A) → precedes first next ≡ true → precedes next later ≡ true → precedes first later ≡ true)
    → (items : List A) → is_rising precedes items ≡ true → AllPairs (λ first later. precedes first later ≡ true) items
rising_pairs precedes on items rising =
    follow_pairs (λ first later. precedes first later ≡ true) on precedes (λ first later is. is) items
    (λ place d few.
    holds (follows precedes (take place items) (get_or items place d))
    (none_bad (λ before item. not (follows precedes before item)) items (none (has_bad (λ before item. not (follows precedes before item)) items) rising) place d few)) where
      none : (b : Bool) → not b ≡ true → b ≡ false
      none true e = cc
      none false e = refl

pub rising_numbers : (numbers : List ℕ) → is_rising nat_lt numbers ≡ true → IsStrictlyIncreasing numbers
rising_numbers numbers rising k within =
    lower (rising_pairs nat_lt (λ first next later one two. grind (arith, nat_tests, one, two)) numbers rising k (k + 1) 0 (omega arith) within) where
      lower : {a b : ℕ} → nat_lt a b ≡ true → a < b
      lower {a} {b} e = grind (arith, nat_tests, e)

-- ## Sums and lengths

-- a sum is that of the items before the last one, and the last one
pub sum_last : {A : Type 0} (f : A → ℕ) (items : List A) (place : ℕ) (d : A) → suc place ≡ length items
    → sum_by f items ≡ sum_by f (take place items) + f (get_or items place d)
sum_last f [] place d last = absurd (omega (arith, last))
sum_last f (item ∷ []) zero d last = omega (arith, sum_by-cons f item [])
sum_last f (item ∷ next ∷ items) zero d last = absurd (omega (arith, last))
sum_last f (item ∷ items) (suc place) d last =
    omega (arith, sum_by-cons f item items, sum_by-cons f item (take place items), sum_last f items place d (omega (arith, last)))

-- items each of whose places is below a number are at most so many
pub within_most : {A : Type 0} (items : List A) (most : ℕ) → ((place : ℕ) (d : A) → place < length items → place < most) → length items ≤ most
within_most [] most each = omega arith
within_most (item ∷ items) most each = omega (arith, each (length items) item (omega arith))
