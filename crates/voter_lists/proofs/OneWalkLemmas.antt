-- Two lists have one walk where each bag has the same accounts in them.
use Rattle.std.proofs.Common.{◌≡◌, ◌≢◌, ℕ, zero, suc, ◌+◌, ◌<◌, ◌≤◌, Bool, true, false, nat_eq, cond, List, [], ◌∷◌, ◌++◌, length, refl, sym, ap, ap₂, ◌∙◌, subst, inl, inr, arith, if◌then◌else◌}
use Rattle.std.proofs.lemmas.Bool.{cases_eq, cases_lt}
use Rattle.std.proofs.lemmas.List.{append-nil}
use Rattle.std.proofs.lemmas.List.Elements.{filter-append}
use Rattle.npos_base.specs.declared.account.AccountId.{AccountId}
use Rattle.npos_base.specs.Account.{same_account}
use Rattle.voter_lists.specs.Bags.{Order, OnlyIn, in_bag, from_bag, in_walk_order, joined, left, placed_before, number_of, number_at, bag_of, put_in_front, inserted, removed, moved}
use Rattle.voter_lists.specs.OneWalk.{IsOneWalk, StandsIn, listing_of, appended, taken_out, appended_anew, put_before}
use Rattle.npos_base.proofs.NumberTests.{number_test, number_tie}
use Rattle.voter_lists.proofs.HomeLemmas.{left_in_bag, before_other, before_in_bag, only_left}

-- lists whose bags are alike are walked alike
pub same_walk : (number count : ℕ) (a b : Order) → ((k : ℕ) → number ≤ k → k < number + count → in_bag k a ≡ in_bag k b) → from_bag number count a ≡ from_bag number count b
same_walk number zero a b alike = refl
same_walk number (suc more) a b alike =
    ap₂ (λ xs ys. xs ++ ys) (same_walk (number + 1) more a b (λ k low high. alike k (omega (arith, low)) (omega (arith, high)))) (alike number (omega arith) (omega arith))

-- the accounts of a bag within those of a bag
bag_itself : (k : ℕ) (order : Order) → in_bag k (in_bag k order) ≡ in_bag k order
bag_itself k [] = refl
bag_itself k (entry ∷ order) = at (nat_eq entry.1 k) refl (bag_itself k order) where
  at : (b : Bool) → nat_eq entry.1 k ≡ b → in_bag k (in_bag k order) ≡ in_bag k order → in_bag k (cond b (entry ∷ in_bag k order) (in_bag k order)) ≡ cond b (entry ∷ in_bag k order) (in_bag k order)
  at true e rest = rw e (ap (λ xs. entry ∷ xs) rest)
  at false e rest = rest

bag_other : (k n : ℕ) (order : Order) → n ≢ k → in_bag k (in_bag n order) ≡ []
bag_other k n [] differ = refl
bag_other k n (entry ∷ order) differ = at (nat_eq entry.1 n) refl (bag_other k n order differ) where
  at : (b : Bool) → nat_eq entry.1 n ≡ b → in_bag k (in_bag n order) ≡ [] → in_bag k (cond b (entry ∷ in_bag n order) (in_bag n order)) ≡ []
  at true e rest = let gone : nat_eq entry.1 k ≡ false = number_test entry.1 k (λ f. differ (sym (number_tie entry.1 n e) ∙ f)) in rw gone rest
  at false e rest = rest

-- no account of the walk is in a bag below those that are walked
below_walk : (k number count : ℕ) (order : Order) → k < number → in_bag k (from_bag number count order) ≡ []
below_walk k number zero order lt = refl
below_walk k number (suc more) order lt =
    filter-append (λ entry. nat_eq entry.1 k) (from_bag (number + 1) more order) (in_bag number order)
    ∙ ap₂ (λ xs ys. xs ++ ys) (below_walk k (number + 1) more order (omega (arith, lt))) (bag_other k number order (λ e. absurd (omega (arith, e, lt))))

-- a bag of the walk is that bag of the list
bag_walked : (k number count : ℕ) (order : Order) → number ≤ k → k < number + count → in_bag k (from_bag number count order) ≡ in_bag k order
bag_walked k number zero order low high = absurd (omega (arith, low, high))
bag_walked k number (suc more) order low high =
    filter-append (λ entry. nat_eq entry.1 k) (from_bag (number + 1) more order) (in_bag number order)
    ∙ elim (cases_eq number k) [
      | inl same ↦
          ap₂ (λ xs ys. xs ++ ys) (below_walk k (number + 1) more order (omega (arith, same))) (ap (λ n. in_bag k (in_bag n order)) same ∙ bag_itself k order)
      | inr differ ↦
          ap₂ (λ xs ys. xs ++ ys) (bag_walked k (number + 1) more order (above low differ) (omega (arith, high))) (bag_other k number order differ)
          ∙ append-nil (in_bag k order)
    ] where
      above : number ≤ k → number ≢ k → number + 1 ≤ k
      above le differ = elim (cases_lt number k) [ inl lt ↦ omega (arith, lt) | inr past ↦ absurd (differ (omega (arith, le, past))) ]

module _ (thresholds : List ℕ) where
  pub alike : (a b : Order) → IsOneWalk thresholds a b → (k : ℕ) → k < length thresholds + 1 → in_bag k a ≡ in_bag k b
  alike a b one k lt =
      sym (bag_walked k 0 (length thresholds + 1) a (omega arith) (omega (arith, lt))) ∙ ap (in_bag k) one ∙ bag_walked k 0 (length thresholds + 1) b (omega arith) (omega (arith, lt))

  walk_itself : (order : Order) → in_walk_order thresholds (in_walk_order thresholds order) ≡ in_walk_order thresholds order
  walk_itself order = same_walk 0 (length thresholds + 1) (in_walk_order thresholds order) order (λ k low high. bag_walked k 0 (length thresholds + 1) order low high)

  -- lists whose bags are alike have one walk, also where one of them is arranged
  one_walk : (a b : Order) → ((k : ℕ) → k < length thresholds + 1 → in_bag k a ≡ in_bag k b) → IsOneWalk thresholds a (in_walk_order thresholds b)
  one_walk a b same = same_walk 0 (length thresholds + 1) a b (λ k low high. same k (omega (arith, high))) ∙ sym (walk_itself b)

  joined_alike : (a b : Order) (who : AccountId) (n k : ℕ) → in_bag k a ≡ in_bag k b → in_bag k (joined a who n) ≡ in_bag k (joined b who n)
  joined_alike a b who n k same =
      filter-append (λ entry. nat_eq entry.1 k) a ((who, n) ∷ []) ∙ ap (λ xs. xs ++ in_bag k ((who, n) ∷ [])) same
      ∙ sym (filter-append (λ entry. nat_eq entry.1 k) b ((who, n) ∷ []))

  left_alike : (a b : Order) (who : AccountId) (k : ℕ) → in_bag k a ≡ in_bag k b → in_bag k (left a who) ≡ in_bag k (left b who)
  left_alike a b who k same = left_in_bag who k a ∙ ap (λ xs. left xs who) same ∙ sym (left_in_bag who k b)

  pub insert_one : (list arranged : Order) (who : AccountId) (score : ℕ) → IsOneWalk thresholds list arranged
      → IsOneWalk thresholds (appended thresholds list who score) (inserted (listing_of thresholds arranged) who
      score).order
  insert_one list arranged who score one = one_walk _ _ (λ k lt. joined_alike list arranged who (bag_of thresholds score) k (alike list arranged one k lt))

  pub remove_one : (list arranged : Order) (who : AccountId) → IsOneWalk thresholds list arranged → IsOneWalk thresholds (taken_out list who) (removed (listing_of thresholds arranged) who).order
  remove_one list arranged who one = one_walk _ _ (λ k lt. left_alike list arranged who k (alike list arranged one k lt))

  pub move_one : (list arranged : Order) (who : AccountId) (score : ℕ) → IsOneWalk thresholds list arranged
      → IsOneWalk thresholds (appended_anew thresholds list who score)
      (moved (listing_of thresholds arranged) who score).order
  move_one list arranged who score one =
      one_walk _ _ (λ k lt. joined_alike (left list who) (left arranged who) who (bag_of thresholds score) k (left_alike list arranged who k (alike list arranged one k lt)))

  placed_alike : (a b : Order) (who lighter : AccountId) (n k : ℕ) → OnlyIn lighter n a → OnlyIn lighter n b → in_bag k a ≡ in_bag k b
      → in_bag k (placed_before a (who, n) lighter) ≡ in_bag k (placed_before b (who, n) lighter)
  placed_alike a b who lighter n k only_a only_b same =
      elim (cases_eq k n) [
        | inl here ↦
            subst (λ m. in_bag m (placed_before a (who, n) lighter) ≡ in_bag m (placed_before b (who, n) lighter)) (sym here)
            (before_in_bag a who n lighter only_a ∙ ap (λ xs. placed_before xs (who, n) lighter) (subst (λ m. in_bag m a ≡ in_bag m b) here same) ∙ sym (before_in_bag b who n lighter only_b))
        | inr other ↦ before_other a who n lighter k other ∙ same ∙ sym (before_other b who n lighter k other)
      ]

  pub front_one : (list arranged : Order) (who lighter : AccountId) (number : ℕ) → IsOneWalk thresholds list arranged
      → StandsIn who number list → StandsIn who number arranged → StandsIn lighter number list → StandsIn lighter number arranged
      → IsOneWalk thresholds (put_before list who lighter) (put_in_front (listing_of thresholds arranged) who lighter).order
  front_one list arranged who lighter number one in_list in_arranged lighter_list lighter_arranged = at (same_account who lighter) where
    at : (b : Bool) → IsOneWalk thresholds (if b then list else placed_before (left list who) (who, number_at (number_of list who)) lighter)
        (if b then listing_of thresholds arranged else listing_of thresholds (in_walk_order thresholds (placed_before (left arranged who) (who, number_at (number_of arranged who)) lighter))).order
    at true = one
    at false =
        rw (in_list.0, in_arranged.0)
        (one_walk _ _ (λ k lt. placed_alike (left list who) (left arranged who) who lighter number k
        (only_left lighter number who list lighter_list.1) (only_left lighter number who arranged lighter_arranged.1)
        (left_alike list arranged who k (alike list arranged one k lt))))
