-- The submissions that wait stay numbered.
use Rattle.std.proofs.Common.{◌≡◌, ◌∙◌, ℕ, zero, suc, ◌+◌, ◌<◌, ◌≤◌, false, nat_eq, List, [], ◌∷◌, ◌++◌, map, take, drop, All, IsPermutation, ap, sym, subst, arith}
use Rattle.std.specs.List.{IsDistinct, AllByRecursion}
use Rattle.std.proofs.lemmas.Grind.{common_steps}
use Rattle.std.proofs.lemmas.List.{map-append, take-map}
use Rattle.std.proofs.lemmas.List.Elements.{All-push, All-take, All-tail, All-head}
use Rattle.std.proofs.lemmas.List.Sorted.{IsPermutation-map, All-permutation}
use Rattle.std.proofs.lemmas.Map.Keys.{IsDistinct-IsPermutation}
use Rattle.npos_base.proofs.NumberTests.{number_test}
use Rattle.submission_queue.specs.declared.submission.Submission.{Submission}
use Rattle.submission_queue.specs.Rank.{ranked}
use Rattle.submission_queue.specs.Ranking.{Ranking, offered}
use Rattle.submission_queue.specs.Numbers.{AreNumbered, NumbersLaw}
use Rattle.submission_queue.proofs.LawLemmas.{rank_permutation}

flips : (x y : ℕ) → nat_eq x y ≡ nat_eq y x
flips x y = grind (arith, common_steps)

abbrev Apart : ℕ → List ℕ → Type 0
Apart x ys = AllByRecursion (λ y. nat_eq x y ≡ false) ys

apart_take : (x n : ℕ) (ys : List ℕ) → Apart x ys → Apart x (take n ys)
apart_take x zero ys apart = tt
apart_take x (suc n) [] apart = tt
apart_take x (suc n) (y ∷ ys) apart = (apart.0, apart_take x n ys apart.1)

distinct_take : (n : ℕ) (xs : List ℕ) → IsDistinct nat_eq xs → IsDistinct nat_eq (take n xs)
unfolding IsDistinct
distinct_take zero xs distinct = tt
distinct_take (suc n) [] distinct = tt
distinct_take (suc n) (x ∷ xs) distinct = (apart_take x n xs distinct.0, distinct_take n xs distinct.1)

apart_push : (x y : ℕ) (xs : List ℕ) → nat_eq x y ≡ false → Apart x xs → Apart x (xs ++ y ∷ [])
apart_push x y [] here apart = (here, tt)
apart_push x y (z ∷ zs) here apart = (apart.0, apart_push x y zs here apart.1)

abbrev numbers : List Submission → List ℕ
numbers items = map (λ item. item.number) items

distinct_push : (next : ℕ) (items : List Submission) → All (λ item. item.number < next) items → IsDistinct nat_eq (numbers items) → IsDistinct nat_eq (numbers items ++ next ∷ [])
unfolding IsDistinct
distinct_push next [] before distinct = (tt, tt)
distinct_push next (item ∷ items) before distinct = (
  apart_push item.number next (numbers items)
      (number_test item.number next (λ same. omega (arith, same, All-head (λ (i : Submission). i.number < next) item items before))) distinct.0,
  distinct_push next items (All-tail (λ (i : Submission). i.number < next) item items before) distinct.1,
)

distinct_drop : (items : List Submission) → IsDistinct nat_eq (numbers items) → IsDistinct nat_eq (numbers (drop 1 items))
unfolding IsDistinct
distinct_drop [] distinct = distinct
distinct_drop (item ∷ items) distinct = distinct.1

all_drop : (P : Submission → Type 0) (items : List Submission) → All P items → All P (drop 1 items)
all_drop P [] all = all
all_drop P (item ∷ items) all = All-tail P item items all

numbered_offer : (next : ℕ) (queue : Ranking) (item : Submission) → 1 ≤ next → item.number ≡ next → AreNumbered next queue.items → AreNumbered (next + 1) (offered queue item).items
numbered_offer next queue item some is numbered =
    let all = queue.items ++ item ∷ [] in
    let same : IsPermutation all (ranked all) = rank_permutation all in
    let named : numbers all ≡ numbers queue.items ++ next ∷ [] =
    map-append (λ (i : Submission). i.number) queue.items (item ∷ []) ∙ ap (λ n. numbers queue.items ++ n ∷ []) is in
    record {
      distinct =
          subst (IsDistinct nat_eq) (take-map (λ (i : Submission). i.number) queue.places (ranked all))
          (distinct_take queue.places (numbers (ranked all))
          (IsDistinct-IsPermutation nat_eq flips (numbers all) (numbers (ranked all)) (IsPermutation-map (λ (i : Submission). i.number) all (ranked all) same)
          (subst (IsDistinct nat_eq) (sym named) (distinct_push next queue.items numbered.before numbered.distinct))));
      given =
          All-take (λ i. 1 ≤ i.number) queue.places (ranked all)
          (All-permutation (λ i. 1 ≤ i.number) all (ranked all) same (All-push (λ i. 1 ≤ i.number) queue.items item numbered.given (omega (arith, some, is))));
      before =
          All-take (λ i. i.number < next + 1) queue.places (ranked all)
          (All-permutation (λ i. i.number < next + 1) all (ranked all) same
          (All-push (λ i. i.number < next + 1) queue.items item (λ k d below. omega (arith, numbered.before k d below)) (omega (arith, is))));
    }

pub numbers_law : NumbersLaw
numbers_law = (
  numbered_offer,
  λ next items numbered. record {
    distinct = distinct_drop items numbered.distinct;
    given = all_drop (λ i. 1 ≤ i.number) items numbered.given;
    before = all_drop (λ i. i.number < next) items numbered.before;
  },
)
