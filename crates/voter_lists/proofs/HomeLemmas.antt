-- Which accounts the bags hold, and what the walk says of each, after one bag changes.
use Rattle.std.proofs.Common.{◌≡◌, ◌≢◌, ℕ, zero, suc, ◌+◌, ◌<◌, ◌≤◌, Bool, true, false, not, ◌||◌, nat_eq, cond}
use Rattle.std.proofs.Common.{if◌then◌else◌, List, [], ◌∷◌, ◌++◌, length, get_or, refl, ap, sym, ◌∙◌, subst, arith}
use Rattle.std.proofs.Common.{Option, Some, None, true≢false, add-zero, zero-add, replicate, ◌⊎◌, inl, inr}
use Rattle.std.proofs.Math.Nat.{eq-or-lt_of_le}
use Rattle.std.specs.List.{slice_set}
use Rattle.std.proofs.lemmas.List.{append-nil}
use Rattle.std.proofs.lemmas.List.Elements.{filter-append}
use Rattle.npos_base.specs.declared.account.AccountId.{AccountId}
use Rattle.npos_base.specs.Account.{same_account}
use Rattle.npos_base.proofs.AccountOrder.{same_exact, same_itself, same_turned}
use Rattle.npos_base.proofs.NumberTests.{number_same, number_test, number_tie}
use Rattle.voter_lists.specs.Bags.{Order, OnlyIn, in_bag, joined, left, placed_before, number_of, is_in}
use Rattle.voter_lists.specs.Bag.{without, with_before}
use Rattle.voter_lists.specs.BagRows.{numbered, walk_from, holds, AreNoted}
use Rattle.voter_lists.specs.Nodes.{NotedAnew}

-- an account is this one, or the test tells it apart
pub by_same : {P : Type 0} (q who : AccountId) → (q ≡ who → P) → (same_account q who ≡ false → P) → P
by_same {P} q who one other = at (same_account q who) refl where
  at : (b : Bool) → same_account q who ≡ b → P
  at true e = one (same_exact q who e)
  at false e = other e

-- who joins
numbered_append : (number : ℕ) (xs ys : List AccountId) → numbered number (xs ++ ys) ≡ numbered number xs ++ numbered number ys
numbered_append number [] ys = refl
numbered_append number (x ∷ xs) ys = ap (λ zs. (x, number) ∷ zs) (numbered_append number xs ys)

pub joined_other : (order : Order) (who : AccountId) (number other : ℕ) → other ≢ number → in_bag other (joined order who number) ≡ in_bag other order
joined_other order who number other differ =
    filter-append (λ entry. nat_eq entry.1 other) order ((who, number) ∷ [])
    ∙ rw (number_test number other (λ e. differ (sym e))) (append-nil (in_bag other order))

pub joined_here : (order : Order) (who : AccountId) (number : ℕ) (bag : List AccountId) → in_bag number order ≡ numbered number bag
    → in_bag number (joined order who number) ≡ numbered number (bag ++ who ∷ [])
joined_here order who number bag e =
    filter-append (λ entry. nat_eq entry.1 number) order ((who, number) ∷ [])
    ∙ rw (number_same number) (ap (λ zs. zs ++ (who, number) ∷ []) e ∙ sym (numbered_append number bag (who ∷ [])))

-- who leaves
pub left_other : (who : AccountId) (number other : ℕ) (order : Order) → OnlyIn who number order → other ≢ number → in_bag other (left order who) ≡ in_bag other order
left_other who number other [] only differ = refl
left_other who number other (entry ∷ order) only differ = at (same_account entry.0 who) refl (left_other who number other order only.1 differ) where
  at : (b : Bool) → same_account entry.0 who ≡ b → in_bag other (left order who) ≡ in_bag other order
      → in_bag other (cond (not b) (entry ∷ left order who) (left order who)) ≡ in_bag other (entry ∷ order)
  at true e rest = let gone : nat_eq entry.1 other ≡ false = number_test entry.1 other (λ f. differ (sym f ∙ only.0 e)) in rw gone rest
  at false e rest = at_number (nat_eq entry.1 other) where
    at_number : (c : Bool) → cond c (entry ∷ in_bag other (left order who)) (in_bag other (left order who)) ≡ cond c (entry ∷ in_bag other order) (in_bag other order)
    at_number true = ap (λ zs. entry ∷ zs) rest
    at_number false = rest

pub left_in_bag : (who : AccountId) (number : ℕ) (order : Order) → in_bag number (left order who) ≡ left (in_bag number order) who
left_in_bag who number [] = refl
left_in_bag who number (entry ∷ order) = at (same_account entry.0 who) refl (nat_eq entry.1 number) refl (left_in_bag who number order) where
  at : (b : Bool) → same_account entry.0 who ≡ b → (c : Bool) → nat_eq entry.1 number ≡ c → in_bag number (left order who) ≡ left (in_bag number order) who
      → in_bag number (cond (not b) (entry ∷ left order who) (left order who)) ≡ left (cond c (entry ∷ in_bag number order) (in_bag number order)) who
  at true e true f rest = rw e rest
  at true e false f rest = rest
  at false e true f rest = rw (e, f) (ap (λ zs. entry ∷ zs) rest)
  at false e false f rest = rw f rest

left_numbered : (who : AccountId) (number : ℕ) (bag : List AccountId) → left (numbered number bag) who ≡ numbered number (without bag who)
left_numbered who number [] = refl
left_numbered who number (account ∷ bag) = at (same_account account who) (left_numbered who number bag) where
  at : (b : Bool) → left (numbered number bag) who ≡ numbered number (without bag who)
      → cond (not b) ((account, number) ∷ left (numbered number bag) who) (left (numbered number bag) who) ≡ numbered number (cond (not b) (account ∷ without bag who) (without bag who))
  at true rest = rest
  at false rest = ap (λ zs. (account, number) ∷ zs) rest

pub left_here : (order : Order) (who : AccountId) (number : ℕ) (bag : List AccountId) → in_bag number order ≡ numbered number bag → in_bag number (left order who) ≡ numbered number (without bag who)
left_here order who number bag e = left_in_bag who number order ∙ ap (λ zs. left zs who) e ∙ left_numbered who number bag

pub only_left : (lighter : AccountId) (number : ℕ) (who : AccountId) (order : Order) → OnlyIn lighter number order → OnlyIn lighter number (left order who)
only_left lighter number who [] only = tt
only_left lighter number who (entry ∷ order) only = at (same_account entry.0 who) (only_left lighter number who order only.1) where
  at : (b : Bool) → OnlyIn lighter number (left order who) → OnlyIn lighter number (cond (not b) (entry ∷ left order who) (left order who))
  at true rest = rest
  at false rest = (only.0, rest)

-- who goes before another
pub before_other : (order : Order) (who : AccountId) (number : ℕ) (lighter : AccountId) (other : ℕ) → other ≢ number → in_bag other (placed_before order (who, number) lighter) ≡ in_bag other order
before_other [] who number lighter other differ = rw (number_test number other (λ e. differ (sym e))) refl
before_other (entry ∷ order) who number lighter other differ = at (same_account entry.0 lighter) (before_other order who number lighter other differ) where
  at : (b : Bool) → in_bag other (placed_before order (who, number) lighter) ≡ in_bag other order
      → in_bag other (if b then (who, number) ∷ entry ∷ order else entry ∷ placed_before order (who, number) lighter) ≡ in_bag other (entry ∷ order)
  at true rest = rw (number_test number other (λ e. differ (sym e))) refl
  at false rest = at_number (nat_eq entry.1 other) where
    at_number : (c : Bool) → cond c (entry ∷ in_bag other (placed_before order (who, number) lighter))
        (in_bag other (placed_before order (who, number) lighter))
        ≡ cond c (entry ∷ in_bag other order) (in_bag other order)
    at_number true = ap (λ zs. entry ∷ zs) rest
    at_number false = rest

pub before_in_bag : (order : Order) (who : AccountId) (number : ℕ) (lighter : AccountId) → OnlyIn lighter number order
    → in_bag number (placed_before order (who, number) lighter) ≡ placed_before (in_bag number order) (who, number) lighter
before_in_bag [] who number lighter only = rw (number_same number) refl
before_in_bag (entry ∷ order) who number lighter only = at (same_account entry.0 lighter) refl (nat_eq entry.1 number) refl (before_in_bag order who number lighter only.1) where
  at : (b : Bool) → same_account entry.0 lighter ≡ b → (c : Bool) → nat_eq entry.1 number ≡ c
      → in_bag number (placed_before order (who, number) lighter) ≡ placed_before (in_bag number order) (who, number) lighter
      → in_bag number (if b then (who, number) ∷ entry ∷ order else entry ∷ placed_before order (who, number) lighter)
      ≡ placed_before (cond c (entry ∷ in_bag number order) (in_bag number order)) (who, number) lighter
  at true e true f rest = rw (number_same number, f, e) refl
  at true e false f rest = absurd (true≢false (sym (number_same number) ∙ ap (λ n. nat_eq n number) (sym (only.0 e)) ∙ f))
  at false e true f rest = rw (f, e) (ap (λ zs. entry ∷ zs) rest)
  at false e false f rest = rw f rest

before_numbered : (number : ℕ) (bag : List AccountId) (who lighter : AccountId) → placed_before (numbered number bag) (who, number) lighter ≡ numbered number (with_before bag who lighter)
before_numbered number [] who lighter = refl
before_numbered number (account ∷ bag) who lighter = at (same_account account lighter) (before_numbered number bag who lighter) where
  at : (b : Bool) → placed_before (numbered number bag) (who, number) lighter ≡ numbered number (with_before bag who lighter)
      → (if b then (who, number) ∷ (account, number) ∷ numbered number bag else (account, number) ∷ placed_before (numbered number bag) (who, number) lighter)
      ≡ numbered number (if b then who ∷ account ∷ bag else account ∷ with_before bag who lighter)
  at true rest = refl
  at false rest = ap (λ zs. (account, number) ∷ zs) rest

pub before_here : (order : Order) (who : AccountId) (number : ℕ) (lighter : AccountId) (bag : List AccountId) → OnlyIn lighter number order → in_bag number order ≡ numbered number bag
    → in_bag number (placed_before order (who, number) lighter) ≡ numbered number (with_before bag who lighter)
before_here order who number lighter bag only e = before_in_bag order who number lighter only ∙ ap (λ zs. placed_before zs (who, number) lighter) e ∙ before_numbered number bag who lighter

-- the bags hold each account where it is noted, after one bag and the notes change
pub noted_set : (home now : AccountId → Option ℕ) (number place : ℕ) (bags : List (List AccountId)) (bag : List AccountId)
    → ((who : AccountId) (other : ℕ) → other ≢ number + place → is_in (now who) other ≡ is_in (home who) other)
    → ((who : AccountId) → holds bag who ≡ is_in (now who) (number + place))
    → AreNoted home number bags → AreNoted now number (slice_set bags place bag)
noted_set home now number place [] bag others here l = tt
noted_set home now number zero (old ∷ bags) bag others here l =
    ((λ who. here who ∙ ap (λ n. is_in (now who) n) (add-zero number)), all (number + 1) bags (omega arith) l.1) where
      all : (from : ℕ) (rest : List (List AccountId)) → number < from → AreNoted home from rest → AreNoted now from rest
      all from [] h m = tt
      all from (b ∷ rest) h m = ((λ who. m.0 who ∙ sym (others who from (λ e. apart e h))), all (from + 1) rest (omega (arith, h)) m.1) where
        apart : from ≡ number + 0 → number < from → ⊥
        apart e h = omega (arith, e, h)
noted_set home now number (suc place) (old ∷ bags) bag others here l = (
  (λ who. l.0 who ∙ sym (others who number (λ e. far e))),
  noted_set home now (number + 1) place bags bag (λ who other differ. others who other
      (λ e. differ (e ∙ sym (shifted number place)))) (λ who. here who
      ∙ ap (λ n. is_in (now who) n) (sym (shifted number place))) l.1,
) where
  shifted : (n p : ℕ) → n + 1 + p ≡ n + suc p
  shifted n p = omega arith

  far : number ≡ number + suc place → ⊥
  far e = omega (arith, e)

pub noted_at : (home : AccountId → Option ℕ) (number place : ℕ) (bags : List (List AccountId)) (d : List AccountId) → place < length bags → AreNoted home number bags
    → (who : AccountId) → holds (get_or bags place d) who ≡ is_in (home who) (number + place)
noted_at home number place [] d h l who = absurd (omega (arith, h))
noted_at home number zero (bag ∷ bags) d h l who = l.0 who ∙ ap (λ n. is_in (home who) n) (sym (add-zero number))
noted_at home number (suc place) (bag ∷ bags) d h l who =
    noted_at home (number + 1) place bags d (omega (arith, h)) l.1 who ∙ ap (λ n. is_in (home who) n) (shifted number place) where
      shifted : (n p : ℕ) → n + 1 + p ≡ n + suc p
      shifted n p = omega arith

holds_join : (bag : List AccountId) (who q : AccountId) → holds (bag ++ who ∷ []) q ≡ (holds bag q || same_account who q)
holds_join [] who q = or_false (same_account who q) where
  or_false : (b : Bool) → (b || false) ≡ b
  or_false true = refl
  or_false false = refl
holds_join (account ∷ bag) who q = at (same_account account q) (holds_join bag who q) where
  at : (b : Bool) → holds (bag ++ who ∷ []) q ≡ (holds bag q || same_account who q) → (b || holds (bag ++ who ∷ []) q) ≡ ((b || holds bag q) || same_account who q)
  at true rest = refl
  at false rest = rest

holds_without_it : (bag : List AccountId) (who : AccountId) → holds (without bag who) who ≡ false
holds_without_it [] who = refl
holds_without_it (account ∷ bag) who = at (same_account account who) refl (holds_without_it bag who) where
  at : (b : Bool) → same_account account who ≡ b → holds (without bag who) who ≡ false → holds (cond (not b) (account ∷ without bag who) (without bag who)) who ≡ false
  at true e rest = rest
  at false e rest = rw e rest

holds_without_other : (bag : List AccountId) (who q : AccountId) → same_account q who ≡ false → holds (without bag who) q ≡ holds bag q
holds_without_other [] who q differ = refl
holds_without_other (account ∷ bag) who q differ = at (same_account account who) refl (holds_without_other bag who q differ) where
  at : (b : Bool) → same_account account who ≡ b → holds (without bag who) q ≡ holds bag q
      → holds (cond (not b) (account ∷ without bag who) (without bag who)) q ≡ (same_account account q || holds bag q)
  at true e rest = let tie : account ≡ who = same_exact account who e in
      let apart : same_account account q ≡ false = ap (λ z. same_account z q) tie ∙ same_turned q who differ in rw apart rest
  at false e rest = ap (λ b. same_account account q || b) rest

-- one joins a bag and is noted there
pub noted_join : (home now : AccountId → Option ℕ) (place : ℕ) (bags : List (List AccountId)) (bag : List AccountId) (who : AccountId)
    → NotedAnew home now who (Some place) → home who ≡ None
    → ((q : AccountId) → holds bag q ≡ is_in (home q) place) → AreNoted home 0 bags → AreNoted now 0 (slice_set bags place (bag ++ who ∷ []))
noted_join home now place bags bag who anew absent held l = noted_set home now 0 place bags (bag ++ who ∷ []) others here l where
  others : (q : AccountId) (other : ℕ) → other ≢ 0 + place → is_in (now q) other ≡ is_in (home q) other
  others q other differ = by_same q who
      (λ e. ap (λ z. is_in (now z) other) e ∙ ap (λ o. is_in o other) anew.here
      ∙ number_test place other (λ f. differ (sym f ∙ sym (zero-add place)))
      ∙ sym (ap (λ z. is_in (home z) other) e ∙ ap (λ o. is_in o other) absent))
      (λ e. ap (λ o. is_in o other) (anew.others q e))

  here : (q : AccountId) → holds (bag ++ who ∷ []) q ≡ is_in (now q) (0 + place)
  here q = holds_join bag who q ∙ by_same q who
      (λ e. subst (λ z. (holds bag z || same_account who z) ≡ is_in (now z) (0 + place)) (sym e)
      (rw (same_itself who, anew.here, zero-add place, number_same place) (or_true (holds bag who))))
      (λ e. rw (same_turned q who e) (or_false (holds bag q) ∙ held q ∙ ap (λ o. is_in o place) (sym (anew.others q e)) ∙ ap (λ n. is_in (now q) n) (sym (zero-add place)))) where
        or_true : (b : Bool) → (b || true) ≡ true
        or_true true = refl
        or_true false = refl

        or_false : (b : Bool) → (b || false) ≡ b
        or_false true = refl
        or_false false = refl

-- one leaves its bag and is noted nowhere
pub noted_leave : (home now : AccountId → Option ℕ) (place : ℕ) (bags : List (List AccountId)) (bag : List AccountId) (who : AccountId)
    → NotedAnew home now who None → home who ≡ Some place
    → ((q : AccountId) → holds bag q ≡ is_in (home q) place) → AreNoted home 0 bags → AreNoted now 0 (slice_set bags place (without bag who))
noted_leave home now place bags bag who anew there held l = noted_set home now 0 place bags (without bag who) others here l where
  others : (q : AccountId) (other : ℕ) → other ≢ 0 + place → is_in (now q) other ≡ is_in (home q) other
  others q other differ = by_same q who
      (λ e. ap (λ z. is_in (now z) other) e ∙ ap (λ o. is_in o other) anew.here
      ∙ sym (ap (λ z. is_in (home z) other) e ∙ ap (λ o. is_in o other) there
      ∙ number_test place other (λ f. differ (sym f ∙ sym (zero-add place)))))
      (λ e. ap (λ o. is_in o other) (anew.others q e))

  here : (q : AccountId) → holds (without bag who) q ≡ is_in (now q) (0 + place)
  here q = by_same q who
      (λ e. ap (λ z. holds (without bag who) z) e ∙ holds_without_it bag who ∙ sym (ap (λ z. is_in (now z) (0 + place)) e ∙ ap (λ o. is_in o (0 + place)) anew.here))
      (λ e. holds_without_other bag who q e ∙ held q ∙ ap (λ o. is_in o place) (sym (anew.others q e)) ∙ ap (λ n. is_in (now q) n) (sym (zero-add place)))

holds_with_before : (bag : List AccountId) (who lighter q : AccountId) → holds (with_before bag who lighter) q ≡ (holds bag q || same_account who q)
holds_with_before [] who lighter q = at (same_account who q) where
  at : (b : Bool) → (b || false) ≡ (false || b)
  at true = refl
  at false = refl
holds_with_before (account ∷ bag) who lighter q = at (same_account account lighter) (holds_with_before bag who lighter q) where
  swap : (a b c : Bool) → (a || (b || c)) ≡ ((b || c) || a)
  swap true true c = refl
  swap true false true = refl
  swap true false false = refl
  swap false true c = refl
  swap false false true = refl
  swap false false false = refl

  group : (a b c : Bool) → (a || (b || c)) ≡ ((a || b) || c)
  group true b c = refl
  group false b c = refl

  at : (b : Bool) → holds (with_before bag who lighter) q ≡ (holds bag q || same_account who q)
      → holds (if b then who ∷ account ∷ bag else account ∷ with_before bag who lighter) q ≡ ((same_account account q || holds bag q) || same_account who q)
  at true rest = swap (same_account who q) (same_account account q) (holds bag q)
  at false rest = ap (λ b. same_account account q || b) rest ∙ group (same_account account q) (holds bag q) (same_account who q)

-- one changes its place in its bag
pub noted_before : (home : AccountId → Option ℕ) (place : ℕ) (bags : List (List AccountId)) (bag : List AccountId) (who lighter : AccountId) → home who ≡ Some place
    → ((q : AccountId) → holds bag q ≡ is_in (home q) place) → AreNoted home 0 bags → AreNoted home 0 (slice_set bags place (with_before (without bag who) who lighter))
noted_before home place bags bag who lighter there held l = noted_set home home 0 place bags (with_before (without bag who) who lighter) (λ q other differ. refl) here l where
  or_false : (b : Bool) → (b || false) ≡ b
  or_false true = refl
  or_false false = refl

  here : (q : AccountId) → holds (with_before (without bag who) who lighter) q ≡ is_in (home q) (0 + place)
  here q = holds_with_before (without bag who) who lighter q ∙ by_same q who
      (λ e. subst (λ z. (holds (without bag who) z || same_account who z) ≡ is_in (home z) (0 + place)) (sym e)
      (rw (holds_without_it bag who, same_itself who, there, zero-add place, number_same place) refl))
      (λ e. rw (same_turned q who e) (or_false (holds (without bag who) q) ∙ holds_without_other bag who q e ∙ held q ∙ ap (λ n. is_in (home q) n) (sym (zero-add place))))

-- an account stands only in the bag that is noted for it
only_numbered : (who : AccountId) (number place : ℕ) (bag : List AccountId) → (holds bag who ≡ true → number ≡ place) → OnlyIn who place (numbered number bag)
only_numbered who number place [] h = tt
only_numbered who number place (account ∷ bag) h = (
  (λ e. h (ap (λ b. b || holds bag who) e)),
  only_numbered who number place bag (λ e. h (ap (λ b. same_account account who || b) e
      ∙ or_true (same_account account who))),
) where
  or_true : (b : Bool) → (b || true) ≡ true
  or_true true = refl
  or_true false = refl

only_append : (who : AccountId) (place : ℕ) (xs ys : Order) → OnlyIn who place xs → OnlyIn who place ys → OnlyIn who place (xs ++ ys)
only_append who place [] ys p q = q
only_append who place (x ∷ xs) ys p q = (p.0, only_append who place xs ys p.1 q)

pub only_walk : (home : AccountId → Option ℕ) (who : AccountId) (place number : ℕ) (bags : List (List AccountId))
    → home who ≡ Some place → AreNoted home number bags → OnlyIn who place (walk_from number bags)
only_walk home who place number [] there l = tt
only_walk home who place number (bag ∷ bags) there l =
    only_append who place (walk_from (number + 1) bags) (numbered number bag) (only_walk home who place (number + 1) bags there l.1)
    (only_numbered who number place bag (λ e. sym (number_tie place number (sym (l.0 who ∙ ap (λ o. is_in o number) there) ∙ e))))

-- what the list says of an account is what is noted
number_of_numbered : (who : AccountId) (number : ℕ) (bag : List AccountId) → number_of (numbered number bag) who ≡ (if holds bag who then Some number else None)
number_of_numbered who number [] = refl
number_of_numbered who number (account ∷ bag) = at (same_account account who) (number_of_numbered who number bag) where
  at : (b : Bool) → number_of (numbered number bag) who ≡ (if holds bag who then Some number else None)
      → (if b then Some number else number_of (numbered number bag) who) ≡ (if b || holds bag who then Some number else None)
  at true rest = refl
  at false rest = rest

number_of_first : (who : AccountId) (number : ℕ) (xs ys : Order) → number_of xs who ≡ Some number → number_of (xs ++ ys) who ≡ Some number
number_of_first who number [] ys e = absurd (cc)
number_of_first who number (x ∷ xs) ys e = at (same_account x.0 who) e (number_of_first who number xs ys) where
  at : (b : Bool) → (if b then Some x.1 else number_of xs who) ≡ Some number
      → (number_of xs who ≡ Some number → number_of (xs ++ ys) who ≡ Some number)
      → (if b then Some x.1 else number_of (xs ++ ys) who) ≡ Some number
  at true e rest = e
  at false e rest = rest e

number_of_second : (who : AccountId) (xs ys : Order) → number_of xs who ≡ None → number_of (xs ++ ys) who ≡ number_of ys who
number_of_second who [] ys e = refl
number_of_second who (x ∷ xs) ys e = at (same_account x.0 who) e (number_of_second who xs ys) where
  at : (b : Bool) → (if b then Some x.1 else number_of xs who) ≡ None
      → (number_of xs who ≡ None → number_of (xs ++ ys) who ≡ number_of ys who)
      → (if b then Some x.1 else number_of (xs ++ ys) who) ≡ number_of ys who
  at true e rest = absurd (cc)
  at false e rest = rest e

pub number_none : (home : AccountId → Option ℕ) (who : AccountId) (number : ℕ) (bags : List (List AccountId))
    → ((other : ℕ) → number ≤ other → is_in (home who) other ≡ false) → AreNoted home number bags
    → number_of (walk_from number bags) who ≡ None
number_none home who number [] far l = refl
number_none home who number (bag ∷ bags) far l =
    number_of_second who (walk_from (number + 1) bags) (numbered number bag) (number_none home who (number + 1) bags (λ other h. far other (omega (arith, h))) l.1)
    ∙ number_of_numbered who number bag ∙ rw (l.0 who ∙ far number (omega arith)) refl

pub number_some : (home : AccountId → Option ℕ) (who : AccountId) (number place : ℕ) (bags : List (List AccountId))
    → home who ≡ Some place → AreNoted home number bags → number ≤ place → place < number + length bags
    → number_of (walk_from number bags) who ≡ Some place
number_some home who number place [] there l low high = absurd (omega (arith, low, high))
number_some home who number place (bag ∷ bags) there l low high = at (eq-or-lt_of_le low) (number_some home who (number + 1) place bags there l.1) where
  at : (number ≡ place) ⊎ (number < place) → (number + 1 ≤ place → place < number + 1 + length bags → number_of (walk_from (number + 1) bags) who ≡ Some place)
      → number_of (walk_from (number + 1) bags ++ numbered number bag) who ≡ Some place
  at (inl e) rest =
      number_of_second who (walk_from (number + 1) bags) (numbered number bag)
      (number_none home who (number + 1) bags (λ other h. ap (λ o. is_in o other) there ∙ number_test place other (λ f. absurd (omega (arith, e, f, h)))) l.1)
      ∙ number_of_numbered who number bag
      ∙ rw (l.0 who ∙ ap (λ o. is_in o number) there ∙ ap (λ n. nat_eq n number) (sym e) ∙ number_same number) (ap Some e)
  at (inr h) rest = number_of_first who place (walk_from (number + 1) bags) (numbered number bag) (rest (omega (arith, h)) (omega (arith, high)))

pub number_noted : (home : AccountId → Option ℕ) (who : AccountId) (bags : List (List AccountId)) → ((place : ℕ) → home who ≡ Some place → place < length bags) → AreNoted home 0 bags
    → number_of (walk_from 0 bags) who ≡ home who
number_noted home who bags within l = at (home who) refl where
  at : (o : Option ℕ) → home who ≡ o → number_of (walk_from 0 bags) who ≡ o
  at None e = number_none home who 0 bags (λ other h. ap (λ o. is_in o other) e) l
  at (Some place) e = number_some home who 0 place bags e l (omega arith) (omega (arith, within place e))

-- the same notes
pub noted_alike : (home now : AccountId → Option ℕ) (number : ℕ) (bags : List (List AccountId)) → ((who : AccountId) → now who ≡ home who) → AreNoted home number bags → AreNoted now number bags
noted_alike home now number [] alike l = tt
noted_alike home now number (bag ∷ bags) alike l = ((λ who. l.0 who ∙ ap (λ o. is_in o number) (sym (alike who))), noted_alike home now (number + 1) bags alike l.1)

-- no bag has an account where nothing is noted
pub noted_empty : (number count : ℕ) → AreNoted (λ _. None) number (replicate count [])
noted_empty number zero = tt
noted_empty number (suc count) = ((λ who. refl), noted_empty (number + 1) count)
