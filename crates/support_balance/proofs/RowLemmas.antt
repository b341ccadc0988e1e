-- What a target gets from a row of edges.
use Rattle.std.proofs.Common.{◌≡◌, ◌≢◌, ℕ, zero, suc, ◌+◌, ◌<◌, cond, nat_eq, List, [], ◌∷◌, length, sum_by, get_or, set, All, refl, ap, sym, ◌∙◌, arith}
use Rattle.std.specs.List.{AllPairs}
use Rattle.std.proofs.lemmas.List.Sums.{sum_by-cons, sum_by-set}
use Rattle.std.proofs.lemmas.List.Elements.{All-head, All-tail}
use Rattle.std.proofs.lemmas.Bool.{cond-true, cond-false, ne_eqb, eq-eqb}
use Rattle.npos_base.specs.declared.figures.Edge.{Edge}
use Rattle.weight_book.specs.Weights.{edges_to, amount_sum}
use Rattle.weight_book.proofs.SumLemmas.{sum_filter-cons}
use Rattle.support_balance.specs.Rows.{AreAlike}

-- what counts for a target
abbrev pub weight : ℕ → Edge → ℕ
weight target edge = cond (nat_eq edge.target target) edge.amount 0

pub to_weight : (row : List Edge) (target : ℕ) → amount_sum (edges_to row target) ≡ sum_by (weight target) row
to_weight [] target = refl
to_weight (edge ∷ row) target =
    sum_filter-cons (λ (e : Edge). nat_eq e.target target) (λ (e : Edge). e.amount) edge row
    ∙ ap (λ n. weight target edge + n) (to_weight row target)
    ∙ sym (sum_by-cons (weight target) edge row)

weight_none : (row : List Edge) (target : ℕ) → All (λ (e : Edge). e.target ≢ target) row → sum_by (weight target) row ≡ 0
weight_none [] target all = refl
weight_none (edge ∷ row) target all = omega (
  arith,
  sum_by-cons (weight target) edge row,
  cond-false (nat_eq edge.target target) edge.amount 0 (ne_eqb edge.target target (All-head (λ (e : Edge). e.target ≢ target) edge row all)),
  weight_none row target (All-tail (λ (e : Edge). e.target ≢ target) edge row all),
)

abbrev pub IsRising : List Edge → Type 0
IsRising row = AllPairs (λ (one : Edge) (other : Edge). one.target < other.target) row

-- one edge leads to its target
pub own_weight : (row : List Edge) → IsRising row → (i : ℕ) (d : Edge) → i < length row
    → sum_by (weight (get_or row i d).target) row ≡ (get_or row i d).amount
own_weight [] rising i d h = absurd (omega arith)
own_weight (edge ∷ row) rising zero d h = omega (
  arith,
  sum_by-cons (weight edge.target) edge row,
  cond-true (nat_eq edge.target edge.target) edge.amount 0 (eq-eqb edge.target edge.target refl),
  weight_none row edge.target (λ k e l same. omega (arith, rising 0 (suc k) e (omega arith) (omega (arith, l)), same)),
)
own_weight (edge ∷ row) rising (suc i) d h =
    let rest = own_weight row (λ a b e p q. rising (suc a) (suc b) e (omega (arith, p)) (omega (arith, q))) i d (omega (arith, h)) in
    omega (
      arith,
      sum_by-cons (weight (get_or row i d).target) edge row,
      cond-false (nat_eq edge.target (get_or row i d).target) edge.amount 0
          (ne_eqb edge.target (get_or row i d).target (λ same. omega (arith, rising 0 (suc i) d (omega arith) h, same))),
      rest,
    )

pub own_amount : (row : List Edge) → IsRising row → (i : ℕ) (d : Edge) → i < length row
    → amount_sum (edges_to row (get_or row i d).target) ≡ (get_or row i d).amount
own_amount row rising i d h = to_weight row (get_or row i d).target ∙ own_weight row rising i d h

-- rows that are alike rise alike
pub rising_alike : (old new : List Edge) → AreAlike old new → IsRising old → IsRising new
rising_alike old new alike rising i j d a b =
    omega (arith, alike.targets i d (omega (arith, a, b, alike.count)), alike.targets j d (omega (arith, b, alike.count)), rising i j d a (omega (arith, b, alike.count)))

-- one edge is set
pub to_set : (row : List Edge) (i : ℕ) (edge d : Edge) (target : ℕ) → i < length row → edge.target ≡ (get_or row i d).target
    → amount_sum (edges_to (set row i edge) target) + cond (nat_eq (get_or row i d).target target) (get_or row i d).amount 0
    ≡ amount_sum (edges_to row target) + cond (nat_eq (get_or row i d).target target) edge.amount 0
to_set row i edge d target h same =
    let one : weight target edge ≡ cond (nat_eq (get_or row i d).target target) edge.amount 0 = ap (λ n. cond (nat_eq n target) edge.amount 0) same in
    omega (arith, to_weight (set row i edge) target, to_weight row target, sum_by-set (weight target) row i edge d h, one)
