-- Parts of a whole, rounded down.
use Rattle.std.proofs.Common.{◌≡◌, ℕ, zero, suc, ◌+◌, ◌-◌, ◌*◌, ◌/◌, ◌<◌, ◌≤◌, List, [], ◌∷◌, sum_by, inl, inr, ap, sym, ◌∙◌, subst, arith}
use Rattle.std.proofs.Math.Nat.{div-zero, div-mul-le_self, lt-div-mul-add, mul-add, mul-sub, mul_comm, mul_assoc, le_of_mul-le-mul_left, mul-le-mul_left, mul-le-mul_right}
use Rattle.std.proofs.lemmas.Bool.{cases_lt}
use Rattle.std.proofs.lemmas.Nat.{le-div}
use Rattle.std.proofs.lemmas.List.Sums.{sum_by-cons}

product_of_sum : (a b c : ℕ) → (a + b) * c ≡ a * c + b * c
product_of_sum a b c = mul_comm (a + b) c ∙ (mul-add c a b ∙ cc (mul_comm c a, mul_comm c b))

product_of_rest : (a b c : ℕ) → (a - b) * c ≡ a * c - b * c
product_of_rest a b c = mul_comm (a - b) c ∙ (mul-sub c a b ∙ cc (mul_comm c a, mul_comm c b))

-- where whole is at least part, what is at least the part's value is at least as many
pub no_fewer : (v q a : ℕ) → 0 < a → a ≤ q → v ≤ v * q / a
no_fewer v q a some within = le-div v (v * q) a some (mul-le-mul_left v within)

-- a part is no more than the whole
pub part_within : (a p q : ℕ) → p ≤ q → a * p / q ≤ a
part_within a p zero within = omega (arith, ap (λ n. n) (div-zero (a * p)))
part_within a p (suc k) within =
    le_of_mul-le-mul_left {k = suc k} (omega (arith, div-mul-le_self (a * p) (suc k), mul-le-mul_left a within, mul_comm (a * p / suc k) (suc k), mul_comm a (suc k))) (omega arith)

pub nothing_of : (a q : ℕ) → a * 0 / q ≡ 0
nothing_of a q = omega (arith, part_of_nothing q) where
  part_of_nothing : (q : ℕ) → 0 / q ≡ 0
  part_of_nothing zero = div-zero 0
  part_of_nothing (suc k) = omega (arith, div-mul-le_self 0 (suc k))

-- v more of a, and its part of q more of q: q has lost nothing of what it is of a
pub entry_keeps : (a q v : ℕ) → a * (q + v * q / a) ≤ (a + v) * q
entry_keeps a q v =
    omega (arith, mul-add a q (v * q / a), product_of_sum a v q, div-mul-le_self (v * q) a, mul_comm (v * q / a) a)

-- p less of q, and its part of a less of a
pub payout_keeps : (a q p : ℕ) → p ≤ q → a * (q - p) ≤ (a - a * p / q) * q
payout_keeps a q p within =
    omega (arith, mul-sub a q p, product_of_rest a (a * p / q) q, div-mul-le_self (a * p) q)

-- what is left of a is no more than what is left of q, where a was no more than q
pub payout_within : (a q p : ℕ) → a ≤ q → p ≤ q → a - a * p / q ≤ q - p
payout_within a zero p few within = omega (arith, few, within)
payout_within a (suc k) p few within = elim (cases_lt (suc k - p) (a - a * p / suc k)) [
  | inl more ↦
      let paid : ℕ = a * p / suc k in
      let rest : ℕ = suc k - p in
      let counted : (paid + 1 + rest) * suc k ≤ a * suc k =
      mul-le-mul_right (suc k) (omega (arith, more)) in
      absurd (omega (
        arith,
        counted,
        product_of_sum (paid + 1) rest (suc k),
        product_of_sum paid 1 (suc k),
        lt-div-mul-add {a = a * p} {b = suc k} (omega arith),
        mul-sub a (suc k) p,
        mul-le-mul_left a within,
        mul-le-mul_right rest few,
        mul_comm rest (suc k),
      ))
  | inr done ↦ done
]

-- x of q is no more of a than x of r is of b, where a has no greater a share
pub quotient_kept : (a q b r x : ℕ) → a * r ≤ b * q → x ≤ r → a * x / q ≤ b * x / r
quotient_kept a zero b r x price within = omega (arith, div-zero (a * x))
quotient_kept a (suc k) b zero x price within =
    let none : x ≡ 0 = omega (arith, within) in
    omega (arith, subst (λ n. a * n / suc k ≡ 0) (sym none) (nothing_of a (suc k)))
quotient_kept a (suc k) b (suc j) x price within =
    le-div (a * x / suc k) (b * x) (suc j) (omega arith)
    (le_of_mul-le-mul_left {k = suc k} (omega (
      arith,
      mul-le-mul_right (suc j) (div-mul-le_self (a * x) (suc k)),
      mul-le-mul_right x price,
      turned (a * x / suc k) (suc k) (suc j),
      turned a x (suc j),
      turned b (suc k) x,
      mul_comm (b * x) (suc k),
    )) (omega arith)) where
      turned : (m n p : ℕ) → m * n * p ≡ n * (m * p)
      turned m n p = ap (λ t. t * p) (mul_comm m n) ∙ mul_assoc n m p

-- the parts of what is shared are together no more than it
pub parts_within : {X : Type 0} (part : X → ℕ) (value whole : ℕ) (xs : List X) → sum_by (λ x. value * part x / whole) xs * whole ≤ value * sum_by part xs
parts_within part value whole [] = omega arith
parts_within part value whole (x ∷ xs) =
    rw (sum_by-cons, sum_by-cons) (omega (
      arith,
      product_of_sum (value * part x / whole) (sum_by (λ x. value * part x / whole) xs) whole,
      mul-add value (part x) (sum_by part xs),
      div-mul-le_self (value * part x) whole,
      parts_within part value whole xs,
    ))

pub shares_within : {X : Type 0} (part : X → ℕ) (value whole : ℕ) (xs : List X) → 0 < whole → sum_by part xs ≤ whole → sum_by (λ x. value * part x / whole) xs ≤ value
shares_within part value whole xs some within =
    le_of_mul-le-mul_left {k = whole} (omega (
      arith,
      parts_within part value whole xs,
      mul-le-mul_left value within,
      mul_comm (sum_by (λ x. value * part x / whole) xs) whole,
      mul_comm value whole,
    )) some
