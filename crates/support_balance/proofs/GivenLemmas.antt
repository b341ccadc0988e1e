-- What a voter gives to a target.
use Rattle.std.proofs.Common.{◌≡◌, ◌≢◌, ℕ, zero, suc, ◌<◌, ◌≤◌, true, false, cond, nat_eq, List, [], ◌∷◌, length, sum_by, get_or, All, inl, inr, refl, ap, ap₂, sym, ◌∙◌, arith, ◌⊎◌}
use Rattle.std.specs.List.{AllPairs}
use Rattle.std.proofs.lemmas.List.{length-map, get_or-map}
use Rattle.std.proofs.lemmas.List.Sums.{sum_by-cons}
use Rattle.std.proofs.lemmas.List.Elements.{All-head, All-tail}
use Rattle.std.proofs.lemmas.Bool.{cases_Bool, cond-true, cond-false, ne_eqb, eq-eqb, eqb-true, true≢false, cond_both}
use Rattle.npos_base.specs.declared.figures.Edge.{Edge}
use Rattle.weight_book.specs.Weights.{edges_from}
use Rattle.weight_book.proofs.GivenEdgeLemmas.{filtered_sum}
use Rattle.support_balance.specs.Turns.{given}
use Rattle.support_balance.specs.Rounds.{GiveSame, IsBefore}
use Rattle.support_balance.specs.Rows.{AreAlike, amounts, differs}
use Rattle.support_balance.proofs.Edges.{no_edge}

-- what counts for a pair
abbrev pub pair_weight : ℕ → ℕ → Edge → ℕ
pair_weight voter target edge = cond (nat_eq edge.voter voter) (cond (nat_eq edge.target target) edge.amount 0) 0

pub given_weight : (edges : List Edge) (voter target : ℕ) → given edges voter target ≡ sum_by (pair_weight voter target) edges
given_weight edges voter target = filtered_sum (λ (e : Edge). e.amount) (λ (e : Edge). nat_eq e.target target) (edges_from edges voter)
    ∙ filtered_sum (λ (e : Edge). cond (nat_eq e.target target) e.amount 0) (λ (e : Edge). nat_eq e.voter voter) edges

-- no edge leads from the voter to the target
abbrev pub LeadsElsewhere : ℕ → ℕ → Edge → Type 0
LeadsElsewhere voter target edge = (edge.voter ≢ voter) ⊎ (edge.target ≢ target)

pub apart_weight : (edge : Edge) (voter target : ℕ) → LeadsElsewhere voter target edge → pair_weight voter target edge ≡ 0
apart_weight edge voter target apart = elim apart [
  | inl v ↦ cond-false (nat_eq edge.voter voter) (cond (nat_eq edge.target target) edge.amount 0) 0 (ne_eqb edge.voter voter v)
  | inr t ↦
      let none = cond-false (nat_eq edge.target target) edge.amount 0 (ne_eqb edge.target target t) in
      elim (cases_Bool (nat_eq edge.voter voter)) [
        | inl v ↦ cond-true (nat_eq edge.voter voter) (cond (nat_eq edge.target target) edge.amount 0) 0 v ∙ none
        | inr v ↦ cond-false (nat_eq edge.voter voter) (cond (nat_eq edge.target target) edge.amount 0) 0 v
      ]
]

pub own_pair : (edge : Edge) → pair_weight edge.voter edge.target edge ≡ edge.amount
own_pair edge = cond-true (nat_eq edge.voter edge.voter) (cond (nat_eq edge.target edge.target) edge.amount 0) 0 (eq-eqb edge.voter edge.voter refl)
    ∙ cond-true (nat_eq edge.target edge.target) edge.amount 0 (eq-eqb edge.target edge.target refl)

pub none_weight : (edge : Edge) (voter target : ℕ) → edge.amount ≤ 0 → pair_weight voter target edge ≡ 0
none_weight edge voter target none =
    let inner : cond (nat_eq edge.target target) edge.amount 0 ≤ 0 = cond_both (nat_eq edge.target target) edge.amount 0 (λ n. n ≤ 0) (λ _. none) (λ _. omega arith) in
    let outer : pair_weight voter target edge ≤ 0 = cond_both (nat_eq edge.voter voter) (cond (nat_eq edge.target target) edge.amount 0) 0 (λ n. n ≤ 0) (λ _. inner) (λ _. omega arith) in
    omega (arith, outer)

pub apart_none : (edges : List Edge) (voter target : ℕ) → All (LeadsElsewhere voter target) edges → sum_by (pair_weight voter target) edges ≡ 0
apart_none [] voter target all = refl
apart_none (edge ∷ edges) voter target all = omega (
  arith,
  sum_by-cons (pair_weight voter target) edge edges,
  apart_weight edge voter target (All-head (LeadsElsewhere voter target) edge edges all),
  apart_none edges voter target (All-tail (LeadsElsewhere voter target) edge edges all),
)

pub before_apart : (one other : Edge) → IsBefore one other → LeadsElsewhere one.voter one.target other
before_apart one other before = elim before [
  | inl v ↦ inl (λ same. omega (arith, v, same))
  | inr t ↦ inr (λ same. omega (arith, t.1, same))
]

behind_apart : (one other : Edge) → IsBefore one other → LeadsElsewhere other.voter other.target one
behind_apart one other before = elim before [
  | inl v ↦ inl (λ same. omega (arith, v, same))
  | inr t ↦ inr (λ same. omega (arith, t.1, same))
]

-- in order, one edge gives what its voter gives to its target
own_given : (edges : List Edge) → AllPairs IsBefore edges → (k : ℕ) (d : Edge) → k < length edges
    → sum_by (pair_weight (get_or edges k d).voter (get_or edges k d).target) edges ≡ (get_or edges k d).amount
own_given [] rising k d h = absurd (omega arith)
own_given (edge ∷ edges) rising zero d h = omega (
  arith,
  sum_by-cons (pair_weight edge.voter edge.target) edge edges,
  own_pair edge,
  apart_none edges edge.voter edge.target (λ k e l. before_apart edge (get_or edges k e) (rising 0 (suc k) e (omega arith) (omega (arith, l)))),
)
own_given (edge ∷ edges) rising (suc k) d h =
    let one = get_or edges k d in
    omega (
      arith,
      sum_by-cons (pair_weight one.voter one.target) edge edges,
      apart_weight edge one.voter one.target (behind_apart edge one (rising 0 (suc k) d (omega arith) h)),
      own_given edges (λ i j e a b. rising (suc i) (suc j) e (omega (arith, a)) (omega (arith, b))) k d (omega (arith, h)),
    )

pub given_at : (edges : List Edge) → AllPairs IsBefore edges → (k : ℕ) (d : Edge) → k < length edges
    → given edges (get_or edges k d).voter (get_or edges k d).target ≡ (get_or edges k d).amount
given_at edges rising k d h = given_weight edges (get_or edges k d).voter (get_or edges k d).target ∙ own_given edges rising k d h

pub same_edge : (one other : Edge) → one.voter ≡ other.voter → one.target ≡ other.target → one.amount ≡ other.amount → one ≡ other
same_edge one other v t a = λ i. record { voter = v i; target = t i; amount = a i }

-- where no amount is another one the edges are the same
pub same_edges : (old new : List Edge) → AreAlike old new → differs (amounts old) (amounts new) ≡ false → new ≡ old
same_edges [] [] alike same = refl
same_edges [] (new ∷ news) alike same = absurd (omega (arith, alike.count))
same_edges (old ∷ olds) [] alike same = absurd (omega (arith, alike.count))
same_edges (old ∷ olds) (new ∷ news) alike same = elim (cases_Bool (nat_eq new.amount old.amount)) [
  | inl t ↦ ap₂ (λ e es. e ∷ es)
      (same_edge new old (alike.voters 0 old (omega arith)) (alike.targets 0 old (omega arith)) (eqb-true new.amount old.amount t))
      (same_edges olds news (record {
        count = omega (arith, alike.count);
        voters = λ k d h. alike.voters (suc k) d (omega (arith, h));
        targets = λ k d h. alike.targets (suc k) d (omega (arith, h));
      }) (rw t at same))
  | inr t ↦ absurd (true≢false (rw t at same))
]

differing_place : (olds news : List ℕ) → length news ≡ length olds → differs olds news ≡ true → (k : ℕ) × (k < length olds) × (get_or news k 0 ≢ get_or olds k 0)
differing_place [] news same some = absurd (true≢false (sym some))
differing_place (old ∷ olds) [] same some = absurd (omega (arith, same))
differing_place (old ∷ olds) (new ∷ news) same some = elim (cases_Bool (nat_eq new old)) [
  | inl t ↦ let rest = differing_place olds news (omega (arith, same)) (rw t at some) in (suc rest.0, omega (arith, rest.1), rest.2)
  | inr t ↦ (0, omega arith, λ e. true≢false (sym (eq-eqb new old e) ∙ t))
]

-- where some amount is another one, some voter gives some target another amount
pub not_same : (old new : List Edge) → AreAlike old new → AllPairs IsBefore old → AllPairs IsBefore new → differs (amounts old) (amounts new) ≡ true → GiveSame old new → ⊥
not_same old new alike before after some same =
    let f = λ (e : Edge). e.amount in
    let (k, h, apart) = differing_place (amounts old) (amounts new) (omega (arith, alike.count, length-map old f, length-map new f)) some in
    let l : k < length old = omega (arith, h, length-map old f) in
    let l' : k < length new = omega (arith, l, alike.count) in
    apart (get_or-map f new k no_edge 0 l' ∙ sym (given_at new after k no_edge l')
    ∙ ap₂ (given new) (alike.voters k no_edge l) (alike.targets k no_edge l) ∙ same (get_or old k no_edge).voter (get_or old k no_edge).target
    ∙ given_at old before k no_edge l ∙ sym (get_or-map f old k no_edge 0 l))

pub same_given : (old new : List Edge) → new ≡ old → GiveSame old new
same_given old new same voter target = ap (λ es. given es voter target) same
