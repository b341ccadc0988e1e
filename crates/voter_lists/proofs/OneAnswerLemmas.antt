-- Where each account stands once, lists with one walk have the same bag for it.
use Rattle.std.proofs.Common.{◌≡◌, ℕ, zero, suc, ◌+◌, ◌<◌, ◌≤◌, Bool, true, false, not, nat_eq, nat_lt, cond, List, [], ◌∷◌, ◌++◌}
use Rattle.std.proofs.Common.{length, All, refl, sym, ap, ◌∙◌, subst, arith, if◌then◌else◌, true≢false, Option, Some, None, is_some}
use Rattle.std.specs.List.{IsDistinct, AllByRecursion}
use Rattle.std.proofs.lemmas.Grind.{common_steps}
use Rattle.std.proofs.lemmas.List.Elements.{All-cons, All-nil, All-tail, All-filter, All-append}
use Rattle.std.proofs.lemmas.List.Sums.{count_by-le-length}
use Rattle.npos_base.specs.declared.account.AccountId.{AccountId}
use Rattle.npos_base.specs.Account.{same_account}
use Rattle.npos_base.proofs.AccountOrder.{same_itself, same_exact, same_turned}
use Rattle.npos_base.proofs.NumberTests.{number_test, number_tie, number_same}
use Rattle.voter_lists.specs.Bags.{Order, OnlyIn, in_bag, from_bag, in_walk_order, joined, left, placed_before, number_of, number_at, is_in}
use Rattle.voter_lists.specs.Bags.{is_listed, is_at_home, bag_of, put_in_front, inserted, removed, moved, rebag_refusal, put_in_front_refusal, walk}
use Rattle.voter_lists.specs.OneWalk.{StandsIn, StandsOnce, AreOneList, listing_of, appended, taken_out, appended_anew, put_before}
use Rattle.voter_lists.proofs.HomeLemmas.{by_same}
use Rattle.voter_lists.proofs.OneWalkLemmas.{alike, insert_one, remove_one, move_one, front_one}

abbrev Apart : AccountId → List AccountId → Type 0
Apart who accounts = AllByRecursion (λ other. same_account who other ≡ false) accounts

-- who is apart from a list has no bag in it
no_number : (who : AccountId) (order : Order) → Apart who (walk order) → number_of order who ≡ None
no_number who [] apart = refl
no_number who (entry ∷ order) apart = rw (same_turned who entry.0 apart.0) (no_number who order apart.1)

apart_of : (who : AccountId) (order : Order) → is_listed order who ≡ false → Apart who (walk order)
apart_of who [] none = tt
apart_of who (entry ∷ order) none = at (same_account entry.0 who) refl none (apart_of who order) where
  at : (b : Bool) → same_account entry.0 who ≡ b → is_some (if b then Some entry.1 else number_of order who) ≡ false
      → (is_listed order who ≡ false → Apart who (walk order)) → Apart who (walk (entry ∷ order))
  at true e none rest = absurd (true≢false none)
  at false e none rest = (same_turned entry.0 who e, rest none)

-- who has no bag in a list has none in what stands of it in one bag
none_in_bag : (who : AccountId) (k : ℕ) (order : Order) → number_of order who ≡ None → number_of (in_bag k order) who ≡ None
none_in_bag who k [] none = refl
none_in_bag who k (entry ∷ order) none = at (same_account entry.0 who) refl none (nat_eq entry.1 k) (none_in_bag who k order) where
  at : (b : Bool) → same_account entry.0 who ≡ b → (if b then Some entry.1 else number_of order who) ≡ None → (c : Bool)
      → (number_of order who ≡ None → number_of (in_bag k order) who ≡ None) → number_of (cond c (entry ∷ in_bag k order) (in_bag k order)) who ≡ None
  at true e none c rest = cc
  at false e none true rest = rw e (rest none)
  at false e none false rest = rest none

-- an account that stands once is listed in the bag that is its own, and in no other
pub in_its_bag : (who : AccountId) (k : ℕ) (order : Order) → IsDistinct same_account (walk order) → is_listed (in_bag k order) who ≡ is_in (number_of order who) k
unfolding IsDistinct
in_its_bag who k [] once = refl
in_its_bag who k (entry ∷ order) once = at (same_account entry.0 who) refl (nat_eq entry.1 k) refl (in_its_bag who k order once.1) where
  at : (b : Bool) → same_account entry.0 who ≡ b → (c : Bool) → nat_eq entry.1 k ≡ c → is_listed (in_bag k order) who ≡ is_in (number_of order who) k
      → is_listed (cond c (entry ∷ in_bag k order) (in_bag k order)) who ≡ is_in (if b then Some entry.1 else number_of order who) k
  at true e true f rest = rw (e, f) refl
  at true e false f rest =
      let here : entry.0 ≡ who = same_exact entry.0 who e in
      let gone : number_of order who ≡ None = no_number who order (subst (λ a. Apart a (walk order)) here once.0) in
      rw (none_in_bag who k order gone, f) refl
  at false e true f rest = rw e rest
  at false e false f rest = rest

bag_within : (thresholds : List ℕ) (who : AccountId) (n : ℕ) (order : Order) → All (λ entry. entry.1 ≤ length thresholds) order → number_of order who ≡ Some n → n ≤ length thresholds
bag_within thresholds who n [] numbered e = absurd cc
bag_within thresholds who n (entry ∷ order) numbered e =
    at (same_account entry.0 who) e (bag_within thresholds who n order (All-tail (λ entry. entry.1 ≤ length thresholds) entry order numbered)) where
      at : (b : Bool) → (if b then Some entry.1 else number_of order who) ≡ Some n → (number_of order who ≡ Some n → n ≤ length thresholds) → n ≤ length thresholds
      at true e rest = let here : entry.1 ≡ n = cc in subst (λ m. m ≤ length thresholds) here (numbered 0 entry (omega arith))
      at false e rest = rest e

-- ---- the bag of an account, and each refusal, is the same in both lists

is_in_itself : (n : ℕ) → is_in (Some n) n ≡ true
is_in_itself n = number_same n

in_one : (o : Option ℕ) (n : ℕ) → is_in o n ≡ true → o ≡ Some n
in_one None n e = absurd (true≢false (sym e))
in_one (Some m) n e = ap Some (number_tie m n e)

module _ (thresholds : List ℕ) (list arranged : Order) (one : AreOneList thresholds list arranged) (who : AccountId) where
  -- a bag that there is has who stands in it in both lists
  in_both : (k : ℕ) → k < length thresholds + 1 → is_in (number_of list who) k ≡ is_in (number_of arranged who) k
  in_both k lt =
      sym (in_its_bag who k list one.list_once.once)
      ∙ ap (λ order. is_listed order who) (alike thresholds list arranged one.walk k lt)
      ∙ in_its_bag who k arranged one.arranged_once.once

  pub same_number : number_of list who ≡ number_of arranged who
  same_number = at (number_of list who) refl where
    absent : (o : Option ℕ) → number_of list who ≡ None → number_of arranged who ≡ o → None ≡ o
    absent None here there = refl
    absent (Some n) here there =
        let within : n ≤ length thresholds = bag_within thresholds who n arranged one.arranged_once.numbered there in
        let found : is_in (number_of list who) n ≡ true = in_both n (omega (arith, within)) ∙ ap (λ o. is_in o n) there ∙ is_in_itself n in
        absurd (true≢false (sym found ∙ ap (λ o. is_in o n) here))

    at : (o : Option ℕ) → number_of list who ≡ o → number_of list who ≡ number_of arranged who
    at None here = here ∙ absent (number_of arranged who) here refl
    at (Some n) here =
        let within : n ≤ length thresholds = bag_within thresholds who n list one.list_once.numbered here in
        here ∙ sym (in_one (number_of arranged who) n (sym (in_both n (omega (arith, within))) ∙ ap (λ o. is_in o n) here ∙ is_in_itself n))

pub same_home : (thresholds : List ℕ) (list arranged : Order) (who : AccountId) (score : ℕ) → AreOneList thresholds list arranged
    → is_at_home (listing_of thresholds list) who score ≡ is_at_home (listing_of thresholds arranged) who score
same_home thresholds list arranged who score one = ap (λ o. is_in o (bag_of thresholds score)) (same_number thresholds list arranged one who)

pub same_rebag : (thresholds : List ℕ) (list arranged : Order) (who : AccountId) (score : ℕ) → AreOneList thresholds list arranged
    → rebag_refusal (listing_of thresholds list) who score ≡ rebag_refusal (listing_of thresholds arranged) who score
same_rebag thresholds list arranged who score one = rw (same_number thresholds list arranged one who) refl

pub same_front : (thresholds : List ℕ) (list arranged : Order) (who : AccountId) (score : ℕ) (lighter : AccountId) (lighter_score : ℕ) → AreOneList thresholds list arranged
    → put_in_front_refusal (listing_of thresholds list) who score lighter lighter_score ≡ put_in_front_refusal (listing_of thresholds arranged) who score lighter lighter_score
same_front thresholds list arranged who score lighter lighter_score one =
    rw (same_number thresholds list arranged one who, same_number thresholds list arranged one lighter) refl

-- ---- each call leaves every account once

all_append : (P : AccountId → Type 0) (xs ys : Order) → AllByRecursion P (walk xs) → AllByRecursion P (walk ys) → AllByRecursion P (walk (xs ++ ys))
all_append P [] ys a b = b
all_append P (x ∷ xs) ys a b = (a.0, all_append P xs ys a.1 b)

all_left : (P : AccountId → Type 0) (who : AccountId) (order : Order) → AllByRecursion P (walk order) → AllByRecursion P (walk (left order who))
all_left P who [] all = tt
all_left P who (entry ∷ order) all = at (same_account entry.0 who) (all_left P who order all.1) where
  at : (b : Bool) → AllByRecursion P (walk (left order who)) → AllByRecursion P (walk (cond (not b) (entry ∷ left order who) (left order who)))
  at true rest = rest
  at false rest = (all.0, rest)

all_placed : (P : AccountId → Type 0) (who : AccountId) (n : ℕ) (lighter : AccountId) (order : Order) → P who → AllByRecursion P (walk order)
    → AllByRecursion P (walk (placed_before order (who, n) lighter))
all_placed P who n lighter [] this all = (this, tt)
all_placed P who n lighter (entry ∷ order) this all = at (same_account entry.0 lighter) (all_placed P who n lighter order this all.1) where
  at : (b : Bool) → AllByRecursion P (walk (placed_before order (who, n) lighter))
      → AllByRecursion P (walk (if b then (who, n) ∷ entry ∷ order else entry ∷ placed_before order (who, n) lighter))
  at true rest = (this, all)
  at false rest = (all.0, rest)

-- lists that share nobody are distinct together
once_append : (xs ys : Order) → IsDistinct same_account (walk xs) → IsDistinct same_account (walk ys)
    → ((who : AccountId) → is_listed xs who ≡ true → is_listed ys who ≡ false) → IsDistinct same_account (walk (xs ++ ys))
unfolding IsDistinct
once_append [] ys a b apart = b
once_append (x ∷ xs) ys a b apart = (
  all_append (λ other. same_account x.0 other ≡ false) xs ys a.0 (apart_of x.0 ys (apart x.0 (rw (same_itself x.0) refl))),
  once_append xs ys a.1 b (λ who listed. apart who (at who (same_account x.0 who) listed)),
) where
  at : (who : AccountId) (b : Bool) → is_listed xs who ≡ true → is_some (if b then Some x.1 else number_of xs who) ≡ true
  at who true listed = refl
  at who false listed = listed

once_joined : (who : AccountId) (n : ℕ) (order : Order) → is_listed order who ≡ false → IsDistinct same_account (walk order) → IsDistinct same_account (walk (joined order who n))
unfolding IsDistinct
once_joined who n order absent once = once_append order ((who, n) ∷ []) once (tt, tt) (λ other listed. by_same other who
    (λ same. absurd (true≢false (sym listed ∙ ap (λ w. is_listed order w) same ∙ absent)))
    (λ differ. rw (same_turned other who differ) refl))

once_left : (who : AccountId) (order : Order) → IsDistinct same_account (walk order) → IsDistinct same_account (walk (left order who))
unfolding IsDistinct
once_left who [] once = tt
once_left who (entry ∷ order) once = at (same_account entry.0 who) (once_left who order once.1) where
  at : (b : Bool) → IsDistinct same_account (walk (left order who)) → IsDistinct same_account (walk (cond (not b) (entry ∷ left order who) (left order who)))
  at true rest = rest
  at false rest = (all_left (λ other. same_account entry.0 other ≡ false) who order once.0, rest)

absent_left : (who : AccountId) (order : Order) → is_listed (left order who) who ≡ false
absent_left who [] = refl
absent_left who (entry ∷ order) = at (same_account entry.0 who) refl (absent_left who order) where
  at : (b : Bool) → same_account entry.0 who ≡ b → is_listed (left order who) who ≡ false → is_listed (cond (not b) (entry ∷ left order who) (left order who)) who ≡ false
  at true e rest = rest
  at false e rest = rw e rest

once_placed : (who : AccountId) (n : ℕ) (lighter : AccountId) (order : Order) → is_listed order who ≡ false → IsDistinct same_account (walk order)
    → IsDistinct same_account (walk (placed_before order (who, n) lighter))
unfolding IsDistinct
once_placed who n lighter [] absent once = (tt, tt)
once_placed who n lighter (entry ∷ order) absent once = at (same_account entry.0 lighter) (once_placed who n lighter order behind once.1) where
  apart : Apart who (walk (entry ∷ order))
  apart = apart_of who (entry ∷ order) absent

  behind : is_listed order who ≡ false
  behind = ap is_some (no_number who order apart.1)

  at : (b : Bool) → IsDistinct same_account (walk (placed_before order (who, n) lighter))
      → IsDistinct same_account (walk (if b then (who, n) ∷ entry ∷ order else entry ∷ placed_before order (who, n) lighter))
  at true rest = (apart, once)
  at false rest = (all_placed (λ other. same_account entry.0 other ≡ false) who n lighter order (same_turned who entry.0 apart.0) once.0, rest)

listed_append : (who : AccountId) (xs ys : Order) → is_listed xs who ≡ false → is_listed ys who ≡ false → is_listed (xs ++ ys) who ≡ false
listed_append who [] ys a b = b
listed_append who (x ∷ xs) ys a b = at (same_account x.0 who) a (λ rest. listed_append who xs ys rest b) where
  at : (c : Bool) → is_some (if c then Some x.1 else number_of xs who) ≡ false → (is_listed xs who ≡ false → is_listed (xs ++ ys) who ≡ false)
      → is_some (if c then Some x.1 else number_of (xs ++ ys) who) ≡ false
  at true a rest = absurd (true≢false a)
  at false a rest = rest a

-- what stands in bags from one on is in none below it
not_below : (who : AccountId) (below number count : ℕ) (order : Order) → IsDistinct same_account (walk order) → below < number
    → is_listed (in_bag below order) who ≡ true → is_listed (from_bag number count order) who ≡ false
not_below who below number zero order once lt listed = refl
not_below who below number (suc more) order once lt listed =
    listed_append who (from_bag (number + 1) more order) (in_bag number order) (not_below who below (number + 1) more order once (omega (arith, lt)) listed)
    (in_its_bag who number order once ∙ elsewhere (number_of order who) (sym (in_its_bag who below order once) ∙ listed)) where
      elsewhere : (o : Option ℕ) → is_in o below ≡ true → is_in o number ≡ false
      elsewhere None e = absurd (true≢false (sym e))
      elsewhere (Some n) e = number_test n number (λ same. absurd (omega (arith, same, lt, number_tie n below e)))

once_bag : (k : ℕ) (order : Order) → IsDistinct same_account (walk order) → IsDistinct same_account (walk (in_bag k order))
unfolding IsDistinct
once_bag k [] once = tt
once_bag k (entry ∷ order) once = at (nat_eq entry.1 k) (once_bag k order once.1) where
  at : (b : Bool) → IsDistinct same_account (walk (in_bag k order)) → IsDistinct same_account (walk (cond b (entry ∷ in_bag k order) (in_bag k order)))
  at true rest = (all_bag order once.0, rest) where
    all_bag : (order : Order) → Apart entry.0 (walk order) → Apart entry.0 (walk (in_bag k order))
    all_bag [] all = tt
    all_bag (e ∷ es) all = go (nat_eq e.1 k) (all_bag es all.1) where
      go : (b : Bool) → Apart entry.0 (walk (in_bag k es)) → Apart entry.0 (walk (cond b (e ∷ in_bag k es) (in_bag k es)))
      go true rest = (all.0, rest)
      go false rest = rest
  at false rest = rest

once_walk : (number count : ℕ) (order : Order) → IsDistinct same_account (walk order) → IsDistinct same_account (walk (from_bag number count order))
unfolding IsDistinct
once_walk number zero order once = tt
once_walk number (suc more) order once =
    once_append (from_bag (number + 1) more order) (in_bag number order) (once_walk (number + 1) more order once) (once_bag number order once)
    (λ who listed. at who (is_listed (in_bag number order) who) refl listed) where
      at : (who : AccountId) (b : Bool) → is_listed (in_bag number order) who ≡ b → is_listed (from_bag (number + 1) more order) who ≡ true → b ≡ false
      at who false e listed = refl
      at who true e listed = absurd (true≢false (sym listed ∙ not_below who number (number + 1) more order once (omega arith) e))

all_walk : (P : AccountId × ℕ → Type 0) (number count : ℕ) (order : Order) → All P order → All P (from_bag number count order)
all_walk P number zero order all = All-nil P
all_walk P number (suc more) order all =
    All-append P (from_bag (number + 1) more order) (in_bag number order) (all_walk P (number + 1) more order all) (All-filter (λ entry. nat_eq entry.1 number) P order all)

-- an account that stands once is in no other bag
nowhere : (who : AccountId) (n : ℕ) (order : Order) → Apart who (walk order) → OnlyIn who n order
nowhere who n [] apart = tt
nowhere who n (entry ∷ order) apart = ((λ same. absurd (true≢false (sym same ∙ same_turned who entry.0 apart.0))), nowhere who n order apart.1)

only_there : (who : AccountId) (n : ℕ) (order : Order) → IsDistinct same_account (walk order) → number_of order who ≡ Some n → OnlyIn who n order
unfolding IsDistinct
only_there who n [] once e = tt
only_there who n (entry ∷ order) once e = at (same_account entry.0 who) refl e (only_there who n order once.1) where
  at : (b : Bool) → same_account entry.0 who ≡ b → (if b then Some entry.1 else number_of order who) ≡ Some n
      → (number_of order who ≡ Some n → OnlyIn who n order) → OnlyIn who n (entry ∷ order)
  at true same e rest = ((λ _. cc), nowhere who n order (subst (λ a. Apart a (walk order)) (same_exact entry.0 who same) once.0))
  at false differ e rest = ((λ same. absurd (true≢false (sym same ∙ differ))), rest e)

stands_in : (thresholds : List ℕ) (order : Order) (who : AccountId) (n : ℕ) → StandsOnce thresholds order → number_of order who ≡ Some n → StandsIn who n order
stands_in thresholds order who n stands here = (here, only_there who n order stands.once here)

module _ (thresholds : List ℕ) where
  abbrev IsNumbered : AccountId × ℕ → Type 0
  IsNumbered entry = entry.1 ≤ length thresholds

  walked : (order : Order) → StandsOnce thresholds order → StandsOnce thresholds (in_walk_order thresholds order)
  walked order stands = record {
    once = once_walk 0 (length thresholds + 1) order stands.once;
    numbered = all_walk IsNumbered 0 (length thresholds + 1) order stands.numbered;
  }

  insert_stands : (order : Order) (who : AccountId) (score : ℕ) → StandsOnce thresholds order → is_listed order who ≡ false → StandsOnce thresholds (appended thresholds order who score)
  insert_stands order who score stands absent = record {
    once = once_joined who (bag_of thresholds score) order absent stands.once;
    numbered = All-append IsNumbered order ((who, bag_of thresholds score) ∷ []) stands.numbered
        (All-cons IsNumbered (who, bag_of thresholds score) [] (count_by-le-length (λ threshold. nat_lt threshold score) thresholds) (All-nil _));
  }

  left_stands : (order : Order) (who : AccountId) → StandsOnce thresholds order → StandsOnce thresholds (left order who)
  left_stands order who stands = record {
    once = once_left who order stands.once;
    numbered = All-filter (λ entry. not (same_account entry.0 who)) IsNumbered order stands.numbered;
  }

  placed_numbered : (who : AccountId) (n : ℕ) (lighter : AccountId) (order : Order) → n ≤ length thresholds → All IsNumbered order → All IsNumbered (placed_before order (who, n) lighter)
  placed_numbered who n lighter [] this all = All-cons IsNumbered (who, n) [] this (All-nil _)
  placed_numbered who n lighter (entry ∷ order) this all = at (same_account entry.0 lighter) (placed_numbered who n lighter order this (All-tail IsNumbered entry order all)) where
    at : (b : Bool) → All IsNumbered (placed_before order (who, n) lighter) → All IsNumbered (if b then (who, n) ∷ entry ∷ order else entry ∷ placed_before order (who, n) lighter)
    at true rest = All-cons IsNumbered (who, n) (entry ∷ order) this all
    at false rest = All-cons IsNumbered entry (placed_before order (who, n) lighter) (all 0 entry (omega arith)) rest

  front_stands : (order : Order) (who lighter : AccountId) → StandsOnce thresholds order → StandsOnce thresholds (put_before order who lighter)
  front_stands order who lighter stands = at (same_account who lighter) where
    within : (o : Option ℕ) → number_of order who ≡ o → number_at o ≤ length thresholds
    within None e = omega arith
    within (Some n) e = bag_within thresholds who n order stands.numbered e

    rest : StandsOnce thresholds (left order who)
    rest = left_stands order who stands

    at : (b : Bool) → StandsOnce thresholds (if b then order else placed_before (left order who) (who, number_at (number_of order who)) lighter)
    at true = stands
    at false = record {
      once = once_placed who (number_at (number_of order who)) lighter (left order who) (absent_left who order) rest.once;
      numbered = placed_numbered who (number_at (number_of order who)) lighter (left order who) (within (number_of order who) refl) rest.numbered;
    }

  module _ (list arranged : Order) (one : AreOneList thresholds list arranged) (who : AccountId) where
    absent_both : is_listed list who ≡ false → is_listed arranged who ≡ false
    absent_both absent = ap is_some (sym (same_number thresholds list arranged one who)) ∙ absent

    pub inserted_once : (score : ℕ) → is_listed list who ≡ false → AreOneList thresholds (appended thresholds list who score) (inserted (listing_of thresholds arranged) who score).order
    inserted_once score absent = record {
      walk = insert_one thresholds list arranged who score one.walk;
      list_once = insert_stands list who score one.list_once absent;
      arranged_once = walked (appended thresholds arranged who score) (insert_stands arranged who score one.arranged_once (absent_both absent));
    }

    pub removed_once : AreOneList thresholds (taken_out list who) (removed (listing_of thresholds arranged) who).order
    removed_once = record {
      walk = remove_one thresholds list arranged who one.walk;
      list_once = left_stands list who one.list_once;
      arranged_once = walked (left arranged who) (left_stands arranged who one.arranged_once);
    }

    pub moved_once : (score : ℕ) → AreOneList thresholds (appended_anew thresholds list who score) (moved (listing_of thresholds arranged) who score).order
    moved_once score = record {
      walk = move_one thresholds list arranged who score one.walk;
      list_once = insert_stands (left list who) who score (left_stands list who one.list_once) (absent_left who list);
      arranged_once = walked (appended_anew thresholds arranged who score) (insert_stands (left arranged who) who score (left_stands arranged who one.arranged_once) (absent_left who arranged));
    }

    pub fronted_once : (score : ℕ) (lighter : AccountId) (lighter_score : ℕ) → put_in_front_refusal (listing_of thresholds list) who score lighter lighter_score ≡ None
        → AreOneList thresholds (put_before list who lighter) (put_in_front (listing_of thresholds arranged) who lighter).order
    fronted_once score lighter lighter_score none = at_who (number_of list who) refl (number_of list lighter) refl where
      let_stand : (n : ℕ) → number_of list who ≡ Some n → number_of list lighter ≡ Some n
          → AreOneList thresholds (put_before list who lighter) (put_in_front (listing_of thresholds arranged) who
          lighter).order
      let_stand n here there = record {
        walk = front_one thresholds list arranged who lighter n one.walk (stands_in thresholds list who n one.list_once here)
            (stands_in thresholds arranged who n one.arranged_once (sym (same_number thresholds list arranged one who) ∙ here))
            (stands_in thresholds list lighter n one.list_once there)
            (stands_in thresholds arranged lighter n one.arranged_once (sym (same_number thresholds list arranged one lighter) ∙ there));
        list_once = front_stands list who lighter one.list_once;
        arranged_once = arranged_stands;
      } where
        kept : StandsOnce thresholds (put_before arranged who lighter)
        kept = front_stands arranged who lighter one.arranged_once

        arranged_stands : StandsOnce thresholds (put_in_front (listing_of thresholds arranged) who lighter).order
        arranged_stands = go (same_account who lighter) kept where
          go : (b : Bool) → StandsOnce thresholds (if b then arranged else placed_before (left arranged who) (who, number_at (number_of arranged who)) lighter)
              → StandsOnce thresholds (if b then listing_of thresholds arranged
              else listing_of thresholds (in_walk_order thresholds (placed_before (left arranged who) (who, number_at (number_of arranged who)) lighter))).order
          go true stands = stands
          go false stands = walked (placed_before (left arranged who) (who, number_at (number_of arranged who)) lighter) stands

      at_who : (o : Option ℕ) → number_of list who ≡ o → (p : Option ℕ) → number_of list lighter ≡ p
          → AreOneList thresholds (put_before list who lighter) (put_in_front (listing_of thresholds arranged) who lighter).order
      at_who None here p there = absurd (refuses none) where
        refuses : put_in_front_refusal (listing_of thresholds list) who score lighter lighter_score ≡ None → ⊥
        refuses e = grind (arith, common_steps, here, e)
      at_who (Some n) here None there = absurd (refuses none) where
        refuses : put_in_front_refusal (listing_of thresholds list) who score lighter lighter_score ≡ None → ⊥
        refuses e = grind (arith, common_steps, here, there, e)
      at_who (Some n) here (Some m) there = at (nat_eq n m) refl where
        at : (b : Bool) → nat_eq n m ≡ b → AreOneList thresholds (put_before list who lighter) (put_in_front (listing_of thresholds arranged) who lighter).order
        at true e = let_stand n here (there ∙ ap Some (sym (number_tie n m e)))
        at false e = absurd (refuses none) where
          refuses : put_in_front_refusal (listing_of thresholds list) who score lighter lighter_score ≡ None → ⊥
          refuses f = grind (arith, common_steps, here, there, e, f)
