-- Supports and spending, split by what a voter gives.
use Rattle.std.proofs.Common.{◌≡◌, ◌≢◌, ℕ, zero, suc, ◌+◌, ◌<◌, ◌≤◌, Bool, true, false, not, cond, filter, nat_eq, List, [], ◌∷◌, sum_by, get_or, All, inl, inr, refl, ap, ap₂, sym, ◌∙◌, arith}
use Rattle.std.specs.List.{IsDistinct, AllByRecursion, range_with_len}
use Rattle.std.proofs.lemmas.List.Sums.{sum_by-cons}
use Rattle.std.proofs.lemmas.List.Elements.{All-filter}
use Rattle.std.proofs.lemmas.Bool.{cases_Bool, eqb-true, ne_eqb}
use Rattle.npos_base.specs.declared.figures.Edge.{Edge}
use Rattle.weight_book.specs.Weights.{edges_from, edges_to, amount_sum, support, spent}
use Rattle.weight_book.proofs.SumLemmas.{parts_all, sum_same, has_range}
use Rattle.weight_book.proofs.GivenEdgeLemmas.{filtered_sum}
use Rattle.support_balance.specs.Turns.{given, edges_but}
use Rattle.support_balance.proofs.RowLemmas.{weight, to_weight}
use Rattle.support_balance.proofs.GivenLemmas.{pair_weight, given_weight}

-- a support is what the voter gives and what the others give
pub support_split : (edges : List Edge) (voter target : ℕ) → support edges target ≡ support (edges_but edges voter) target + given edges voter target
support_split edges voter target = to_weight edges target ∙ split edges
    ∙ ap₂ (λ n m. n + m)
    (sym (filtered_sum (weight target) (λ (e : Edge). not (nat_eq e.voter voter)) edges) ∙ sym (to_weight (edges_but edges voter) target))
    (sym (given_weight edges voter target))
  where
    split : (es : List Edge) → sum_by (weight target) es
        ≡ sum_by (λ (e : Edge). cond (not (nat_eq e.voter voter)) (weight target e) 0) es + sum_by (pair_weight voter target) es
    split [] = refl
    split (e ∷ es) = omega (
      arith,
      sum_by-cons (weight target) e es,
      sum_by-cons (λ (x : Edge). cond (not (nat_eq x.voter voter)) (weight target x) 0) e es,
      sum_by-cons (pair_weight voter target) e es,
      split es,
      one e,
    ) where
      one : (x : Edge) → weight target x ≡ cond (not (nat_eq x.voter voter)) (weight target x) 0 + pair_weight voter target x
      one x = elim (cases_Bool (nat_eq x.voter voter)) [
        | inl t ↦ rw t (omega arith)
        | inr t ↦ rw t (omega arith)
      ]

-- another voter's edges are among those but this one's
pub from_but : (edges : List Edge) (voter other : ℕ) → other ≢ voter → edges_from (edges_but edges voter) other ≡ edges_from edges other
from_but [] voter other ne = refl
from_but (edge ∷ edges) voter other ne =
    let rest = from_but edges voter other ne in
    elim (cases_Bool (nat_eq edge.voter voter)) [
      | inl t ↦
          let miss : nat_eq edge.voter other ≡ false = ne_eqb edge.voter other (λ e. ne (sym e ∙ eqb-true edge.voter voter t)) in
          rw (t, miss) rest
      | inr t ↦ elim (cases_Bool (nat_eq edge.voter other)) [
        | inl u ↦ rw (t, u) (ap (λ es. edge ∷ es) rest)
        | inr u ↦ rw (t, u) rest
      ]
    ]

range_above : (low count : ℕ) → AllByRecursion (λ n. low ≤ n) (range_with_len low count)
range_above low zero = tt
range_above low (suc count) = (omega arith, wider (range_with_len (low + 1) count) (range_above (low + 1) count)) where
  wider : (xs : List ℕ) → AllByRecursion (λ n. low + 1 ≤ n) xs → AllByRecursion (λ n. low ≤ n) xs
  wider [] all = tt
  wider (x ∷ xs) all = (omega (arith, all.0), wider xs all.1)

pub range_distinct : (low count : ℕ) → IsDistinct nat_eq (range_with_len low count)
unfolding IsDistinct
range_distinct low zero = tt
range_distinct low (suc count) = (apart (range_with_len (low + 1) count) (range_above (low + 1) count), range_distinct (low + 1) count) where
  apart : (xs : List ℕ) → AllByRecursion (λ n. low + 1 ≤ n) xs → AllByRecursion (λ n. nat_eq low n ≡ false) xs
  apart [] all = tt
  apart (x ∷ xs) all = (ne_eqb low x (λ same. omega (arith, all.0, same)), apart xs all.1)

-- what a voter spends is what it gives to all targets
pub spent_given : (edges : List Edge) (voter bound : ℕ) → All (λ (e : Edge). e.target < bound) edges
    → sum_by (given edges voter) (range_with_len 0 bound) ≡ spent edges voter
spent_given edges voter bound small =
    let own = edges_from edges voter in
    let numbers = range_with_len 0 bound in
    let key = λ (e : Edge). e.target in
    let f = λ (e : Edge). e.amount in
    parts_all key f own numbers (range_distinct 0 bound)
    (λ k d h. has_range 0 bound (get_or own k d).target (omega arith)
    (omega (arith, All-filter (λ (e : Edge). nat_eq e.voter voter) (λ (e : Edge). e.target < bound) edges small k d h)))

passing : {X : Type 0} (p : X → Bool) (x : X) (xs : List X) → p x ≡ true → filter p (x ∷ xs) ≡ x ∷ filter p xs
passing p x xs t = rw t refl

failing : {X : Type 0} (p : X → Bool) (x : X) (xs : List X) → p x ≡ false → filter p (x ∷ xs) ≡ filter p xs
failing p x xs t = rw t refl

pub filter_swap : {X : Type 0} (p q : X → Bool) (xs : List X) → filter p (filter q xs) ≡ filter q (filter p xs)
filter_swap p q [] = refl
filter_swap p q (x ∷ xs) =
    let rest = filter_swap p q xs in
    elim (cases_Bool (p x)) [
      | inl t ↦ elim (cases_Bool (q x)) [
        | inl u ↦ ap (filter p) (passing q x xs u) ∙ passing p x (filter q xs) t ∙ ap (λ ys. x ∷ ys) rest
            ∙ sym (passing q x (filter p xs) u) ∙ ap (filter q) (sym (passing p x xs t))
        | inr u ↦ ap (filter p) (failing q x xs u) ∙ rest ∙ sym (failing q x (filter p xs) u) ∙ ap (filter q) (sym (passing p x xs t))
      ]
      | inr t ↦ elim (cases_Bool (q x)) [
        | inl u ↦ ap (filter p) (passing q x xs u) ∙ failing p x (filter q xs) t ∙ rest ∙ ap (filter q) (sym (failing p x xs t))
        | inr u ↦ ap (filter p) (failing q x xs u) ∙ rest ∙ ap (filter q) (sym (failing p x xs t))
      ]
    ]

-- what a target gets is what all voters give to it
pub support_given : (edges : List Edge) (target bound : ℕ) → All (λ (e : Edge). e.voter < bound) edges
    → sum_by (λ voter. given edges voter target) (range_with_len 0 bound) ≡ support edges target
support_given edges target bound small =
    let own = edges_to edges target in
    let numbers = range_with_len 0 bound in
    let key = λ (e : Edge). e.voter in
    let f = λ (e : Edge). e.amount in
    let all = parts_all key f own numbers (range_distinct 0 bound)
    (λ k d h. has_range 0 bound (get_or own k d).voter (omega arith)
    (omega (arith, All-filter (λ (e : Edge). nat_eq e.target target) (λ (e : Edge). e.voter < bound) edges small k d h))) in
    let swapped = sum_same (λ voter. given edges voter target) (λ voter. amount_sum (edges_from own voter))
    (λ voter. ap amount_sum (filter_swap (λ (e : Edge). nat_eq e.target target) (λ (e : Edge). nat_eq e.voter voter) edges)) numbers in
    omega (arith, swapped, all)
