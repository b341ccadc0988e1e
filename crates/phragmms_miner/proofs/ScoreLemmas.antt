-- The greatest number that is not above its value, where values fall, and that prescores do.
use Rattle.std.proofs.Common.{ℕ, zero, suc, ◌*◌, ◌/◌, ◌<◌, ◌≤◌, min, nat_le, List, get_or, inl, inr, ap, arith}
use Rattle.std.proofs.Math.Nat.{mul-le-mul_left, div-zero, div-mul-le_self}
use Rattle.std.proofs.lemmas.Nat.{le-div}
use Rattle.std.proofs.lemmas.Bool.{cases_Bool, cases_lt, cases_eq, leb-true, leb-false}
use Rattle.npos_base.specs.declared.figures.Edge.{Edge}
use Rattle.election_snapshot.specs.Snapshot.{Snapshot}
use Rattle.weight_book.specs.Weights.{edges_from, support}
use Rattle.weight_book.specs.Passing.{pay, slack, prescore, nominators}
use Rattle.weight_book.proofs.SumLemmas.{sum_le}
use Rattle.phragmms_miner.specs.Scores.{greatest}

pub greatest_within : (f : ℕ → ℕ) (n : ℕ) → greatest f n ≤ n
greatest_within f zero = omega arith
greatest_within f (suc n) = elim (cases_Bool (nat_le (suc n) (f (suc n)))) [
  | inl t ↦ rw t (omega arith)
  | inr t ↦ rw t (omega (arith, greatest_within f n))
]

pub greatest_paid : (f : ℕ → ℕ) (n : ℕ) → greatest f n ≤ f (greatest f n)
greatest_paid f zero = omega arith
greatest_paid f (suc n) = elim (cases_Bool (nat_le (suc n) (f (suc n)))) [
  | inl t ↦ rw t (leb-true (suc n) (f (suc n)) t)
  | inr t ↦ rw t (greatest_paid f n)
]

pub greatest_reach : (f : ℕ → ℕ) (n x : ℕ) → x ≤ n → x ≤ f x → x ≤ greatest f n
greatest_reach f zero x l p = omega (arith, l)
greatest_reach f (suc n) x l p = elim (cases_Bool (nat_le (suc n) (f (suc n)))) [
  | inl t ↦ rw t l
  | inr t ↦ rw t (elim (cases_eq x (suc n)) [
    | inl same ↦ absurd (omega (arith, leb-false (suc n) (f (suc n)) t, p, same, ap f same))
    | inr other ↦ greatest_reach f n x (omega (arith, l, other)) p
  ])
]

-- where values fall
pub greatest_miss : (f : ℕ → ℕ) (n x : ℕ) → ((a b : ℕ) → a ≤ b → f b ≤ f a) → f x < x → greatest f n < x
greatest_miss f n x falls less = elim (cases_lt (greatest f n) x) [
  | inl l ↦ l
  | inr l ↦ absurd (omega (arith, greatest_paid f n, falls x (greatest f n) l, less, l))
]

pub greatest_cap : (f : ℕ → ℕ) (n x : ℕ) → ((a b : ℕ) → a ≤ b → f b ≤ f a) → f x ≤ x → greatest f n ≤ x
greatest_cap f n x falls most = elim (cases_lt x (greatest f n)) [
  | inr l ↦ l
  | inl l ↦ absurd (omega (arith, greatest_paid f n, falls x (greatest f n) (omega (arith, l)), most, l))
]

quotient_grows : (x y k : ℕ) → x ≤ y → x / k ≤ y / k
quotient_grows x y zero l = omega (arith, div-zero x, div-zero y)
quotient_grows x y (suc k) l = le-div (x / suc k) y (suc k) (omega arith) (omega (arith, div-mul-le_self x (suc k), l))

pay_grows : (edges : List Edge) (edge : Edge) (a b : ℕ) → a ≤ b → pay a edges edge ≤ pay b edges edge
pay_grows edges edge a b l =
    let s = support edges edge.target in
    let m : edge.amount * min a s ≤ edge.amount * min b s = mul-le-mul_left {m = min a s} {n = min b s} edge.amount (omega (arith, l)) in
    quotient_grows (edge.amount * min a s) (edge.amount * min b s) s m

-- a higher price leaves less
pub prescore_falls : (snapshot : Snapshot) (edges : List Edge) (target a b : ℕ) → a ≤ b → prescore b snapshot edges target ≤ prescore a snapshot edges target
prescore_falls snapshot edges target a b l = sum_le (slack b snapshot edges) (slack a snapshot edges) (nominators snapshot target)
    (λ k d h. omega (
      arith,
      sum_le (pay a edges) (pay b edges) (edges_from edges (get_or (nominators snapshot target) k d))
          (λ i e m. pay_grows edges (get_or (edges_from edges (get_or (nominators snapshot target) k d)) i e) a b l),
    ))
