-- What is told by what voters give alone: supports, what voters have left, and so scores.
use Rattle.std.proofs.Common.{◌≡◌, ℕ, zero, suc, ◌+◌, ◌-◌, ◌*◌, ◌/◌, ◌<◌, min, true, false, cond, nat_eq, nat_le, List, [], ◌∷◌, get_or, sum_by, All, inl, inr, refl, ap, ap₂, sym, ◌∙◌, arith}
use Rattle.std.specs.List.{IsDistinct, AllByRecursion, range_with_len}
use Rattle.std.proofs.lemmas.List.Sums.{sum_by-cons, get_or-le-sum_by}
use Rattle.std.proofs.lemmas.List.Elements.{All-filter}
use Rattle.std.proofs.lemmas.Bool.{cases_Bool, cases_lt, eqb-true, eq-eqb, true≢false}
use Rattle.npos_base.specs.declared.figures.Edge.{Edge}
use Rattle.election_snapshot.specs.Snapshot.{Snapshot, stake_of, total_stake}
use Rattle.weight_book.specs.Weights.{edges_from, edges_to, support, same_pair}
use Rattle.weight_book.specs.Passing.{pay, paid, slack, prescore, nominators}
use Rattle.weight_book.proofs.SumLemmas.{sum_at, parts_all, sum_same, has_range}
use Rattle.support_balance.specs.Turns.{given}
use Rattle.support_balance.specs.Rounds.{GiveSame}
use Rattle.support_balance.proofs.SplitLemmas.{range_distinct}
use Rattle.support_balance.proofs.FallLemmas.{support_same}
use Rattle.phragmms_miner.specs.Scores.{greatest, score, IsBest}

-- a sum over edges is the sum over their keys
by_key : (key f : Edge → ℕ) (edges : List Edge) (bound : ℕ) → All (λ (e : Edge). key e < bound) edges
    → sum_by (sum_at key f edges) (range_with_len 0 bound) ≡ sum_by f edges
by_key key f edges bound small =
    let numbers = range_with_len 0 bound in
    parts_all key f edges numbers (range_distinct 0 bound)
    (λ k d h. has_range 0 bound (key (get_or edges k d)) (omega arith) (omega (arith, small k d h)))

bound_of : (Edge → ℕ) → List Edge → List Edge → ℕ
bound_of key old new = sum_by key old + sum_by key new + 1

old_small : (key : Edge → ℕ) (old new : List Edge) → All (λ (e : Edge). key e < bound_of key old new) old
unfolding bound_of
old_small key old new k d h = omega (arith, get_or-le-sum_by key old k d h)

new_small : (key : Edge → ℕ) (old new : List Edge) → All (λ (e : Edge). key e < bound_of key old new) new
unfolding bound_of
new_small key old new k d h = omega (arith, get_or-le-sum_by key new k d h)

-- ## What is paid

abbrev price_of : ℕ → ℕ → ℕ → ℕ
price_of cap total amount = amount * min cap total / total

none_pays : (cap total : ℕ) → 0 ≡ price_of cap total 0
none_pays cap total = grind arith

-- no other edge of such a pair
none_left : (voter target : ℕ) (edge : Edge) (edges : List Edge) → edge.voter ≡ voter → edge.target ≡ target → AllByRecursion (λ other. same_pair edge other ≡ false) edges
    → edges_to (edges_from edges voter) target ≡ []
none_left voter target edge [] v t apart = refl
none_left voter target edge (other ∷ edges) v t apart = elim (cases_Bool (nat_eq other.voter voter)) [
  | inr f ↦ rw f (none_left voter target edge edges v t apart.1)
  | inl s ↦ elim (cases_Bool (nat_eq other.target target)) [
    | inr f ↦ rw (s, f) (none_left voter target edge edges v t apart.1)
    | inl u ↦
        let one : nat_eq edge.voter other.voter ≡ true = eq-eqb edge.voter other.voter (v ∙ sym (eqb-true other.voter voter s)) in
        let two : nat_eq edge.target other.target ≡ true = eq-eqb edge.target other.target (t ∙ sym (eqb-true other.target target u)) in
        absurd (true≢false (rw (one, two) at apart.0))
  ]
]

module _ (cap : ℕ) (all : List Edge) where
  -- what a voter pays for a target is the price of what it gives
  pay_at : (voter target : ℕ) (edges : List Edge) → IsDistinct same_pair edges
      → sum_by (pay cap all) (edges_to (edges_from edges voter) target) ≡ price_of cap (support all target) (given edges voter target)
  unfolding IsDistinct
  pay_at voter target [] distinct = none_pays cap (support all target)
  pay_at voter target (edge ∷ edges) distinct =
      let rest = pay_at voter target edges distinct.1 in
      elim (cases_Bool (nat_eq edge.voter voter)) [
        | inr f ↦ rw f rest
        | inl s ↦ elim (cases_Bool (nat_eq edge.target target)) [
          | inr f ↦ rw (s, f) rest
          | inl u ↦
              let t = eqb-true edge.target target u in
              let none = none_left voter target edge edges (eqb-true edge.voter voter s) t distinct.0 in
              rw (s, u, none)
              (sum_by-cons (pay cap all) edge []
              ∙ (omega arith
              ∙ (ap (λ (n : ℕ). price_of cap (support all n) edge.amount) t
              ∙ ap (price_of cap (support all target)) (omega arith ∙ sym (sum_by-cons (λ (e : Edge). e.amount) edge [])))))
        ]
      ]

  paid_given : (voter bound : ℕ) → IsDistinct same_pair all → All (λ (e : Edge). e.target < bound) all
      → sum_by (λ target. price_of cap (support all target) (given all voter target)) (range_with_len 0 bound) ≡ paid cap all voter
  paid_given voter bound distinct small =
      let own = edges_from all voter in
      sum_same (λ target. price_of cap (support all target) (given all voter target)) (sum_at (λ (e : Edge). e.target) (pay cap all) own)
      (λ target. sym (pay_at voter target all distinct)) (range_with_len 0 bound)
      ∙ by_key (λ (e : Edge). e.target) (pay cap all) own bound (All-filter (λ (e : Edge). nat_eq e.voter voter) (λ (e : Edge). e.target < bound) all small)

paid_same : (cap : ℕ) (old new : List Edge) → IsDistinct same_pair old → IsDistinct same_pair new → GiveSame old new → (voter : ℕ) → paid cap new voter ≡ paid cap old voter
paid_same cap old new one other same voter =
    let key : Edge → ℕ = λ e. e.target in
    let bound = bound_of key old new in
    sym (paid_given cap new voter bound other (new_small key old new))
    ∙ (sum_same (λ target. price_of cap (support new target) (given new voter target)) (λ target. price_of cap (support old target) (given old voter target))
    (λ target. ap₂ (price_of cap) (support_same old new same target) (same voter target)) (range_with_len 0 bound)
    ∙ paid_given cap old voter bound one (old_small key old new))

-- ## Scores

greatest_same : (f g : ℕ → ℕ) → ((x : ℕ) → f x ≡ g x) → (n : ℕ) → greatest f n ≡ greatest g n
greatest_same f g same zero = refl
greatest_same f g same (suc n) = ap₂ (λ value rest. cond (nat_le (suc n) value) (suc n) rest) (same (suc n)) (greatest_same f g same n)

pub score_same : (snapshot : Snapshot) (old new : List Edge) → IsDistinct same_pair old → IsDistinct same_pair new → GiveSame old new → (target : ℕ)
    → score snapshot new target ≡ score snapshot old target
score_same snapshot old new one other same target =
    greatest_same (λ price. prescore price snapshot new target) (λ price. prescore price snapshot old target)
    (λ price. sum_same (slack price snapshot new) (slack price snapshot old)
    (λ voter. ap (λ n. stake_of snapshot voter - n) (paid_same price old new one other same voter)) (nominators snapshot target)) (total_stake snapshot)

pub best_same : (snapshot : Snapshot) (committee : List ℕ) (old new : List Edge) (pick other : ℕ) → ((target : ℕ) → score snapshot new target ≡ score snapshot old target)
    → IsBest snapshot committee old pick → IsBest snapshot committee new other → pick ≡ other
best_same snapshot committee old new pick other same best rival = elim (cases_lt pick other) [
  | inl less ↦ absurd (omega (arith, same pick, same other, rival.lowest pick less best.outside, best.greatest other rival.in_range rival.outside))
  | inr more ↦ elim (cases_lt other pick) [
    | inl less ↦ absurd (omega (arith, same pick, same other, best.lowest other less rival.outside, rival.greatest pick best.in_range best.outside))
    | inr equal ↦ omega (arith, more, equal)
  ]
]
