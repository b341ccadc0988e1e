-- The lists of the bags and the one list of the walk.
use Rattle.std.proofs.Common.{◌≡◌, ◌≢◌, ℕ, zero, suc, ◌+◌, ◌<◌, ◌≤◌, Bool, true, false, ◌||◌, nat_eq, if◌then◌else◌}
use Rattle.std.proofs.Common.{List, [], ◌∷◌, ◌++◌, length, get_or, refl, ap, ap₂, sym, ◌∙◌, subst, append_assoc}
use Rattle.std.proofs.Common.{arith, Option, Some, None, true≢false, add-zero, slice_get, is_some, take, zero-add}
use Rattle.npos_base.proofs.NumberTests.{number_test, number_same}
use Rattle.voter_lists.proofs.HomeLemmas.{noted_at}
use Rattle.std.specs.List.{slice_set}
use Rattle.std.proofs.lemmas.List.{append-nil, take_more}
use Rattle.std.proofs.lemmas.List.Elements.{filter-append}
use Rattle.npos_base.specs.declared.account.AccountId.{AccountId}
use Rattle.npos_base.specs.Account.{same_account}
use Rattle.voter_lists.specs.Bags.{Order, in_bag, from_bag, is_in, walk, account_after}
use Rattle.voter_lists.specs.BagRows.{falling, numbered, walk_from, holds, AreNoted}

-- each bag of the list has the accounts that the order gives its number
abbrev pub Lists : Order → ℕ → List (List AccountId) → Type 0
Lists order number [] = Unit {0}
Lists order number (bag ∷ bags) = (in_bag number order ≡ numbered number bag) × Lists order (number + 1) bags

-- the accounts of one bag
in_bag_numbered : (number : ℕ) (accounts : List AccountId) → in_bag number (numbered number accounts) ≡ numbered number accounts
in_bag_numbered number [] = refl
in_bag_numbered number (account ∷ accounts) = rw (number_same number) (ap (λ order. (account, number) ∷ order) (in_bag_numbered number accounts))

in_bag_other : (number other : ℕ) (accounts : List AccountId) → other ≢ number → in_bag number (numbered other accounts) ≡ []
in_bag_other number other [] differ = refl
in_bag_other number other (account ∷ accounts) differ = rw (number_test other number differ) (in_bag_other number other accounts differ)

-- no bag of the walk is below the first
in_bag_below : (below number : ℕ) (bags : List (List AccountId)) → below < number → in_bag below (walk_from number bags) ≡ []
in_bag_below below number [] h = refl
in_bag_below below number (bag ∷ bags) h =
    filter-append (λ entry. nat_eq entry.1 below) (walk_from (number + 1) bags) (numbered number bag)
    ∙ ap₂ (λ xs ys. xs ++ ys) (in_bag_below below (number + 1) bags (omega (arith, h))) (in_bag_other below number bag (λ e. below_not e h)) where
      below_not : number ≡ below → below < number → ⊥
      below_not e h = omega (arith, e, h)

-- more entries of a lower bag change no bag
lists_more : (order : Order) (number lower : ℕ) (accounts : List AccountId) (bags : List (List AccountId))
    → lower < number → Lists order number bags → Lists (order ++ numbered lower accounts) number bags
lists_more order number lower accounts [] h l = tt
lists_more order number lower accounts (bag ∷ bags) h l = (
  filter-append (λ entry. nat_eq entry.1 number) order (numbered lower accounts)
      ∙ ap₂ (λ xs ys. xs ++ ys) l.0 (in_bag_other number lower accounts (λ e. omega (arith, e, h))) ∙ append-nil (numbered number bag),
  lists_more order (number + 1) lower accounts bags (omega (arith, h)) l.1,
)

pub walk_lists : (number : ℕ) (bags : List (List AccountId)) → Lists (walk_from number bags) number bags
walk_lists number [] = tt
walk_lists number (bag ∷ bags) = (
  filter-append (λ entry. nat_eq entry.1 number) (walk_from (number + 1) bags) (numbered number bag)
      ∙ ap₂ (λ xs ys. xs ++ ys) (in_bag_below number (number + 1) bags (omega arith)) (in_bag_numbered number bag),
  lists_more (walk_from (number + 1) bags) (number + 1) number bag bags (omega arith) (walk_lists (number + 1) bags),
)

-- the order of the walk is read off the bags
pub walk_of_lists : (order : Order) (number : ℕ) (bags : List (List AccountId)) → Lists order number bags → from_bag number (length bags) order ≡ walk_from number bags
walk_of_lists order number [] l = refl
walk_of_lists order number (bag ∷ bags) l = ap₂ (λ xs ys. xs ++ ys) (walk_of_lists order (number + 1) bags l.1) l.0

-- one bag of them
pub lists_at : (order : Order) (number place : ℕ) (bags : List (List AccountId)) (d : List AccountId)
    → place < length bags → Lists order number bags → in_bag (number + place) order
    ≡ numbered (number + place) (get_or bags place d)
lists_at order number place [] d h l = absurd (omega (arith, h))
lists_at order number zero (bag ∷ bags) d h l = rw (add-zero number) l.0
lists_at order number (suc place) (bag ∷ bags) d h l =
    subst (λ n. in_bag n order ≡ numbered n (get_or bags place d)) (shifted number place) (lists_at order (number + 1) place bags d (omega (arith, h)) l.1) where
      shifted : (n p : ℕ) → n + 1 + p ≡ n + suc p
      shifted n p = omega arith

-- another order with another list of one bag
pub lists_set : (order new : Order) (number place : ℕ) (bags : List (List AccountId)) (bag : List AccountId)
    → ((other : ℕ) → other ≢ number + place → in_bag other new ≡ in_bag other order) → in_bag (number + place) new ≡ numbered (number + place) bag
    → Lists order number bags → Lists new number (slice_set bags place bag)
lists_set order new number place [] bag others here l = tt
lists_set order new number zero (old ∷ bags) bag others here l =
    (subst (λ n. in_bag n new ≡ numbered n bag) (add-zero number) here, all (number + 1) bags (omega arith) l.1) where
      all : (from : ℕ) (rest : List (List AccountId)) → number < from → Lists order from rest → Lists new from rest
      all from [] h m = tt
      all from (b ∷ rest) h m = (others from (λ e. apart e h) ∙ m.0, all (from + 1) rest (omega (arith, h)) m.1) where
        apart : from ≡ number + 0 → number < from → ⊥
        apart e h = omega (arith, e, h)
lists_set order new number (suc place) (old ∷ bags) bag others here l = (
  others number (λ e. far e) ∙ l.0,
  lists_set order new (number + 1) place bags bag (λ other differ. others other
      (λ e. differ (e ∙ sym (shifted number place)))) (subst (λ n. in_bag n new ≡ numbered n bag)
      (sym (shifted number place)) here) l.1,
) where
  shifted : (n p : ℕ) → n + 1 + p ≡ n + suc p
  shifted n p = omega arith

  far : number ≡ number + suc place → ⊥
  far e = omega (arith, e)

-- the accounts of the walk, bag by bag
pub walk_append : (xs ys : Order) → walk (xs ++ ys) ≡ walk xs ++ walk ys
walk_append [] ys = refl
walk_append (x ∷ xs) ys = ap (λ zs. x.0 ∷ zs) (walk_append xs ys)

pub walk_numbered : (number : ℕ) (accounts : List AccountId) → walk (numbered number accounts) ≡ accounts
walk_numbered number [] = refl
walk_numbered number (account ∷ accounts) = ap (λ zs. account ∷ zs) (walk_numbered number accounts)

-- the walk is the accounts of the bags, those of the highest first
pub walk_falls : (number : ℕ) (bags : List (List AccountId)) → walk (walk_from number bags) ≡ falling bags
walk_falls number [] = refl
walk_falls number (bag ∷ bags) = walk_append (walk_from (number + 1) bags) (numbered number bag) ∙ ap₂ (λ xs ys. xs ++ ys) (walk_falls (number + 1) bags) (walk_numbered number bag)

last_falls : (highest : List AccountId) (rest : List (List AccountId)) → falling (rest ++ highest ∷ []) ≡ highest ++ falling rest
last_falls highest [] = sym (append-nil highest)
last_falls highest (bag ∷ rest) = ap (λ accounts. accounts ++ bag) (last_falls highest rest) ∙ append_assoc highest (falling rest) bag

-- the highest of so many bags, and those below it
pub falling_take : (bags : List (List AccountId)) (number : ℕ) → number < length bags → falling (take (number + 1) bags) ≡ get_or bags number [] ++ falling (take number bags)
falling_take bags number lt = ap falling (take_more bags number [] lt) ∙ last_falls (get_or bags number []) (take number bags)

holds_append : (xs ys : List AccountId) (who : AccountId) → holds (xs ++ ys) who ≡ (holds xs who || holds ys who)
holds_append [] ys who = refl
holds_append (x ∷ xs) ys who = at (same_account x who) (holds_append xs ys who) where
  at : (b : Bool) → holds (xs ++ ys) who ≡ (holds xs who || holds ys who) → (b || holds (xs ++ ys) who) ≡ ((b || holds xs who) || holds ys who)
  at true rest = refl
  at false rest = rest

pub falling_apart : (home : AccountId → Option ℕ) (who : AccountId) (number : ℕ) (bags : List (List AccountId))
    → ((other : ℕ) → number ≤ other → is_in (home who) other ≡ false) → AreNoted home number bags
    → holds (falling bags) who ≡ false
falling_apart home who number [] far l = refl
falling_apart home who number (bag ∷ bags) far l =
    holds_append (falling bags) bag who ∙ rw (falling_apart home who (number + 1) bags (λ other h. far other (omega (arith, h))) l.1, l.0 who ∙ far number (omega arith)) refl

falling_holds : (bags : List (List AccountId)) (place : ℕ) (d : List AccountId) (who : AccountId) → place < length bags → holds (get_or bags place d) who ≡ true → holds (falling bags) who ≡ true
falling_holds [] place d who h e = absurd (omega (arith, h))
falling_holds (bag ∷ bags) zero d who h e = holds_append (falling bags) bag who ∙ rw e (or_true (holds (falling bags) who)) where
  or_true : (b : Bool) → (b || true) ≡ true
  or_true true = refl
  or_true false = refl
falling_holds (bag ∷ bags) (suc place) d who h e = holds_append (falling bags) bag who ∙ rw (falling_holds bags place d who (omega (arith, h)) e) refl

-- the account after another, or the first of what comes behind
abbrev pub or_first : Option AccountId → List AccountId → Option AccountId
or_first next later = if is_some next then next else slice_get later 0

after_past : (xs ys : List AccountId) (who : AccountId) → holds xs who ≡ false → account_after (xs ++ ys) who ≡ account_after ys who
after_past [] ys who e = refl
after_past (x ∷ xs) ys who e = at (same_account x who) e (after_past xs ys who) where
  at : (b : Bool) → (b || holds xs who) ≡ false → (holds xs who ≡ false → account_after (xs ++ ys) who
      ≡ account_after ys who) → (if b then slice_get (xs ++ ys) 0 else account_after (xs ++ ys) who)
      ≡ account_after ys who
  at true e rest = absurd (true≢false e)
  at false e rest = rest e

after_within : (xs ys : List AccountId) (who : AccountId) → holds xs who ≡ true → account_after (xs ++ ys) who ≡ or_first (account_after xs who) ys
after_within [] ys who e = absurd (true≢false (sym e))
after_within (x ∷ xs) ys who e = at (same_account x who) e (after_within xs ys who) where
  first : (zs : List AccountId) → slice_get (zs ++ ys) 0 ≡ or_first (slice_get zs 0) ys
  first [] = refl
  first (z ∷ zs) = refl

  at : (b : Bool) → (b || holds xs who) ≡ true → (holds xs who ≡ true → account_after (xs ++ ys) who ≡ or_first (account_after xs who) ys)
      → (if b then slice_get (xs ++ ys) 0 else account_after (xs ++ ys) who) ≡ or_first (if b then slice_get xs 0 else account_after xs who) ys
  at true e rest = first xs
  at false e rest = rest e

or_first_more : (next : Option AccountId) (xs ys : List AccountId) → or_first (or_first next xs) ys ≡ or_first next (xs ++ ys)
or_first_more None [] ys = refl
or_first_more None (x ∷ xs) ys = refl
or_first_more (Some next) xs ys = refl

after_falling : (home : AccountId → Option ℕ) (who : AccountId) (number place : ℕ) (bags : List (List AccountId))
    (d : List AccountId) → home who ≡ Some (number + place) → AreNoted home number bags → place < length bags
    → account_after (falling bags) who ≡ or_first (account_after (get_or bags place d) who) (falling (take place bags))
after_falling home who number place [] d there l h = absurd (omega (arith, h))
after_falling home who number zero (bag ∷ bags) d there l h =
    after_past (falling bags) bag who (falling_apart home who (number + 1) bags (λ other k. ap (λ o. is_in o other) there ∙ number_test (number + 0) other (λ e. apart other e k)) l.1)
    ∙ alone (account_after bag who) where
      apart : (other : ℕ) → number + 0 ≡ other → number + 1 ≤ other → ⊥
      apart other e k = omega (arith, e, k)

      alone : (next : Option AccountId) → next ≡ or_first next []
      alone None = refl
      alone (Some next) = refl
after_falling home who number (suc place) (bag ∷ bags) d there l h =
    after_within (falling bags) bag who (falling_holds bags place d who (omega (arith, h)) held)
    ∙ ap (λ o. or_first o bag) (after_falling home who (number + 1) place bags d here l.1 (omega (arith, h)))
    ∙ or_first_more (account_after (get_or bags place d) who) (falling (take place bags)) bag where
      shifted : (n p : ℕ) → n + suc p ≡ n + 1 + p
      shifted n p = omega arith

      here : home who ≡ Some (number + 1 + place)
      here = there ∙ ap Some (shifted number place)

      held : holds (get_or bags place d) who ≡ true
      held = noted_at home (number + 1) place bags d (omega (arith, h)) l.1 who ∙ ap (λ o. is_in o (number + 1 + place)) here ∙ number_same (number + 1 + place)

-- the account after another in the walk is in its bag, or the first of a lower one
pub after_walk : (home : AccountId → Option ℕ) (who : AccountId) (place : ℕ) (bags : List (List AccountId)) (d : List AccountId) → home who ≡ Some place → AreNoted home 0 bags → place < length bags
    → account_after (walk (walk_from 0 bags)) who ≡ or_first (account_after (get_or bags place d) who) (walk (walk_from 0 (take place bags)))
after_walk home who place bags d there l h =
    ap (λ zs. account_after zs who) (walk_falls 0 bags)
    ∙ after_falling home who 0 place bags d (there ∙ ap Some (sym (zero-add place))) l h
    ∙ ap (or_first (account_after (get_or bags place d) who)) (sym (walk_falls 0 (take place bags)))

pub or_first_here : (next found : Option AccountId) (later : List AccountId) → next ≡ found → is_some next ≡ true → next ≡ or_first found later
or_first_here next found later e some = at next some ∙ ap (λ o. or_first o later) e where
  at : (o : Option AccountId) → is_some o ≡ true → o ≡ or_first o later
  at None some = absurd (true≢false (sym some))
  at (Some account) some = refl

pub or_first_later : (next found : Option AccountId) (later : List AccountId) → next ≡ found → is_some next ≡ false → slice_get later 0 ≡ or_first found later
or_first_later next found later e none = at next none ∙ ap (λ o. or_first o later) e where
  at : (o : Option AccountId) → is_some o ≡ false → slice_get later 0 ≡ or_first o later
  at None none = refl
  at (Some account) none = absurd (true≢false none)
