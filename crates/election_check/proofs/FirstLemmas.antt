-- The first fault of several, and the lowest number that passes a test.
use Rattle.std.proofs.Common.{◌≡◌, ℕ, zero, suc, ◌+◌, ◌<◌, ◌≤◌, Bool, true, false, cond, List, [], ◌∷◌, ◌++◌, length}
use Rattle.std.proofs.Common.{take, drop, get_or, Option, Some, None, Ok, find, inl, inr, refl, ap, sym, ◌∙◌, arith}
use Rattle.std.specs.List.{IsDistinct, list_any, AllByRecursion, range_with_len}
use Rattle.std.proofs.lemmas.List.{take_more, drop_more, drop_all}
use Rattle.std.proofs.lemmas.List.Folds.{list_any-append}
use Rattle.std.proofs.lemmas.Bool.{cases_eq, or_parts, or_from}
use Rattle.election_check.specs.declared.fault.Fault.{Fault}
use Rattle.election_check.specs.First.{when, first_of, answer_of}

pub when_none : (b : Bool) (fault : Fault) → when b fault ≡ None → b ≡ false
when_none true fault e = absurd (cc)
when_none false fault e = refl

pub none_when : (b : Bool) (fault : Fault) → b ≡ false → when b fault ≡ None
none_when b fault e = rw e refl

-- a step that goes on found no fault
pub none_answered : (o : Option Fault) → Ok tt ≡ answer_of o → o ≡ None
none_answered None e = refl
none_answered (Some fault) e = absurd (cc)

pub first_none : (one : Option Fault) (rest : List (Option Fault)) → first_of (one ∷ rest) ≡ None → (one ≡ None) × (first_of rest ≡ None)
first_none None rest e = (refl, e)
first_none (Some fault) rest e = absurd (cc)

pub none_first : (one : Option Fault) (rest : List (Option Fault)) → one ≡ None → first_of rest ≡ None → first_of (one ∷ rest) ≡ None
none_first one rest e f = rw e f

all_weaker : {X : Type 0} (P Q : X → Type 0) → ((x : X) → P x → Q x) → (xs : List X) → AllByRecursion P xs → AllByRecursion Q xs
all_weaker P Q f [] h = tt
all_weaker P Q f (x ∷ xs) h = (f x h.0, all_weaker P Q f xs h.1)

all_both : {X : Type 0} (P Q R : X → Type 0) → ((x : X) → P x → Q x → R x) → (xs : List X) → AllByRecursion P xs → AllByRecursion Q xs → AllByRecursion R xs
all_both P Q R f [] h k = tt
all_both P Q R f (x ∷ xs) h k = (f x h.0 k.0, all_both P Q R f xs h.1 k.1)

-- the faults of the items of a list, of which each is looked at behind those before it
module _ {X : Type 0} (same : X → X → Bool) (Good : X → Type 0)
    (fault : List X → X → Option Fault) (faults : List X → List X → Option Fault)
    (ends : (before : List X) → faults before [] ≡ None)
    (goes : (before : List X) (x : X) (xs : List X) → faults before (x ∷ xs) ≡ first_of (fault before x ∷ faults (before ++ x ∷ []) xs ∷ []))
  where
    single : (o : Option Fault) → first_of (o ∷ []) ≡ o
    single None = refl
    single (Some v) = refl

    -- one item on in a loop
    at_item : (xs : List X) (i : ℕ) (d : X) → i < length xs
        → faults (take i xs) (drop i xs) ≡ first_of (fault (take i xs) (get_or xs i d) ∷ faults (take (i + 1) xs) (drop (i + 1) xs) ∷ [])
    at_item xs i d h = ap (faults (take i xs)) (drop_more xs i d h) ∙ goes (take i xs) (get_or xs i d) (drop (i + 1) xs)
        ∙ ap (λ before. first_of (fault (take i xs) (get_or xs i d) ∷ faults before (drop (i + 1) xs) ∷ [])) (sym (take_more xs i d h))

    pub past_item : (xs : List X) (i : ℕ) (d : X) → i < length xs → fault (take i xs) (get_or xs i d) ≡ None
        → faults (take i xs) (drop i xs) ≡ faults [] xs → faults (take (i + 1) xs) (drop (i + 1) xs) ≡ faults [] xs
    past_item xs i d h e so_far = sym (at_item xs i d h ∙ ap (λ o. first_of (o ∷ faults (take (i + 1) xs) (drop (i + 1) xs) ∷ [])) e ∙ single (faults (take (i + 1) xs) (drop (i + 1) xs))) ∙ so_far

    pub stops_at : (xs : List X) (i : ℕ) (d : X) (v : Fault) → i < length xs → fault (take i xs) (get_or xs i d) ≡ Some v
        → faults (take i xs) (drop i xs) ≡ faults [] xs → faults [] xs ≡ Some v
    stops_at xs i d v h e so_far = sym so_far ∙ at_item xs i d h ∙ ap (λ o. first_of (o ∷ faults (take (i + 1) xs) (drop (i + 1) xs) ∷ [])) e

    pub past_all : (xs : List X) (i : ℕ) → length xs ≤ i → faults (take i xs) (drop i xs) ≡ faults [] xs → faults [] xs ≡ None
    past_all xs i h so_far = sym so_far ∙ ap (faults (take i xs)) (drop_all i xs h) ∙ ends (take i xs)

    -- there is none exactly where each item is good and none stands twice
    abbrev IsNew : List X → X → Type 0
    IsNew before x = list_any (λ other. same other x) before ≡ false

    module _ (good : (before : List X) (x : X) → fault before x ≡ None → Good x × IsNew before x) where
      parted : (before : List X) (x y : X) → IsNew (before ++ x ∷ []) y → IsNew before y × (same x y ≡ false)
      parted before x y e =
          let parts = or_parts (list_any (λ other. same other y) before) (list_any (λ other. same other y) (x ∷ [])) (sym (list_any-append (λ other. same other y) before (x ∷ [])) ∙ e) in
          (parts.0, (or_parts (same x y) false parts.1).0)

      pub all_good : (before xs : List X) → faults before xs ≡ None → AllByRecursion (λ x. Good x × IsNew before x) xs × IsDistinct same xs
      unfolding IsDistinct
      all_good before [] e = (tt, tt)
      all_good before (x ∷ xs) e =
          let parts = first_none (fault before x) (faults (before ++ x ∷ []) xs ∷ []) (sym (goes before x xs) ∙ e) in
          let rest = all_good (before ++ x ∷ []) xs (first_none (faults (before ++ x ∷ []) xs) [] parts.1).0 in (
            (good before x parts.0, all_weaker (λ y. Good y × IsNew (before ++ x ∷ []) y) (λ y. Good y × IsNew before y) (λ y h. (h.0, (parted before x y h.1).0)) xs rest.0),
            (all_weaker (λ y. Good y × IsNew (before ++ x ∷ []) y) (λ y. same x y ≡ false) (λ y h. (parted before x y h.1).1) xs rest.0, rest.1),
          )

    module _ (fine : (before : List X) (x : X) → Good x → IsNew before x → fault before x ≡ None) where
      joined : (before : List X) (x y : X) → IsNew before y → same x y ≡ false → IsNew (before ++ x ∷ []) y
      joined before x y e f = list_any-append (λ other. same other y) before (x ∷ [])
          ∙ or_from (list_any (λ other. same other y) before) (list_any (λ other. same other y) (x ∷ [])) e (or_from (same x y) false f refl)

      pub none_bad : (before xs : List X) → AllByRecursion (λ x. Good x × IsNew before x) xs → IsDistinct same xs → faults before xs ≡ None
      unfolding IsDistinct
      none_bad before [] h distinct = ends before
      none_bad before (x ∷ xs) h distinct = goes before x xs ∙ none_first (fault before x) (faults (before ++ x ∷ []) xs ∷ []) (fine before x h.0.0 h.0.1)
          (none_first (faults (before ++ x ∷ []) xs) [] (none_bad (before ++ x ∷ []) xs
          (all_both (λ y. Good y × IsNew before y) (λ y. same x y ≡ false) (λ y. Good y × IsNew (before ++ x ∷ []) y)
          (λ y k e. (k.0, joined before x y k.1 e)) xs h.1 distinct.0) distinct.1) refl)

-- the lowest number that passes
module _ (test : ℕ → Bool) where
  found_from : (low n k : ℕ) → low ≤ k → k < low + n → test k ≡ true → ((j : ℕ) → low ≤ j → j < k → test j ≡ false) → find test (range_with_len low n) ≡ Some k
  found_from low zero k p q t below = absurd (omega arith)
  found_from low (suc n) k p q t below = elim (cases_eq low k) [
    | inl e ↦ rw (ap test e ∙ t) (ap Some e)
    | inr e ↦ rw (below low (omega arith) (before p e)) (found_from (low + 1) n k (omega (arith, before p e)) (omega arith) t (λ j a b. below j (omega arith) b))
  ] where
    before : low ≤ k → (low ≡ k → ⊥) → low < k
    before p e = omega (arith, p, e)

  none_from : (low n : ℕ) → ((j : ℕ) → low ≤ j → j < low + n → test j ≡ false) → find test (range_with_len low n) ≡ None
  none_from low zero below = refl
  none_from low (suc n) below = rw (below low (omega arith) (omega arith)) (none_from (low + 1) n (λ j a b. below j (omega arith) (omega arith)))

  fails_from : (low n j : ℕ) → find test (range_with_len low n) ≡ None → low ≤ j → j < low + n → test j ≡ false
  fails_from low zero j e p q = absurd (omega arith)
  fails_from low (suc n) j e p q = at (test low) refl e (λ none h. fails_from (low + 1) n j none h (omega (arith, q))) where
    at : (b : Bool) → test low ≡ b → cond b (Some low) (find test (range_with_len (low + 1) n)) ≡ None
        → (find test (range_with_len (low + 1) n) ≡ None → low + 1 ≤ j → test j ≡ false) → test j ≡ false
    at true t none rest = absurd (cc)
    at false t none rest = elim (cases_eq low j) [
      | inl same ↦ ap test (sym same) ∙ t
      | inr differ ↦ rest none (omega (arith, p, differ))
    ]

  pub lowest_found : (n k : ℕ) → k < n → test k ≡ true → ((j : ℕ) → j < k → test j ≡ false) → find test (range_with_len 0 n) ≡ Some k
  lowest_found n k h t below = found_from 0 n k (omega arith) (omega arith) t (λ j _ l. below j l)

  pub none_found : (n : ℕ) → ((j : ℕ) → j < n → test j ≡ false) → find test (range_with_len 0 n) ≡ None
  none_found n below = none_from 0 n (λ j _ l. below j (omega (arith, l)))

  pub all_fail : (n j : ℕ) → find test (range_with_len 0 n) ≡ None → j < n → test j ≡ false
  all_fail n j e h = fails_from 0 n j e (omega arith) (omega arith)

-- a number that is found is one of those that were looked at
pub found_below : (test : ℕ → Bool) (low n k : ℕ) → find test (range_with_len low n) ≡ Some k → k < low + n
found_below test low zero k e = absurd (cc)
found_below test low (suc n) k e = at (test low) refl e (λ found. found_below test (low + 1) n k found) where
  at : (b : Bool) → test low ≡ b → cond b (Some low) (find test (range_with_len (low + 1) n)) ≡ Some k
      → (find test (range_with_len (low + 1) n) ≡ Some k → k < low + 1 + n) → k < low + suc n
  at true t found rest = let same : low ≡ k = cc in omega (arith, same)
  at false t found rest = omega (arith, rest found)

-- tests that agree find the same number
pub find_agree : (test other : ℕ → Bool) (low n : ℕ) → ((k : ℕ) → k < low + n → test k ≡ other k) → find test (range_with_len low n) ≡ find other (range_with_len low n)
find_agree test other low zero agree = refl
find_agree test other low (suc n) agree = ap (λ b. cond b (Some low) (find test (range_with_len (low + 1) n))) (agree low (omega arith))
    ∙ ap (λ o. cond (other low) (Some low) o) (find_agree test other (low + 1) n (λ k h. agree k (omega (arith, h))))
