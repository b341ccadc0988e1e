-- Parts are rounded down, so the parts of some amounts are together at most the part of all.
use Rattle.std.proofs.Common.{◌≡◌, ℕ, zero, suc, ◌+◌, ◌*◌, ◌/◌, ◌%◌, ◌<◌, ◌≤◌, List, [], ◌∷◌, sum_by, ap, sym, ◌∙◌, mul-add, arith}
use Rattle.std.proofs.Math.Nat.{div-zero, div-mul-le_self, add-mul-div_left, mod-add-div, mul-le-mul_left, mul_assoc}
use Rattle.std.proofs.lemmas.Nat.{le-div, div-mul-add}
use Rattle.std.proofs.lemmas.List.Sums.{sum_by-cons}
use Rattle.npos_base.specs.declared.limits.TheConstants.{WHOLE_FRACTION}
use Rattle.era_book.specs.Payouts.{part}
use Rattle.era_book.specs.Slashes.{due}

quotient_grows : (m n k : ℕ) → m ≤ n → m / k ≤ n / k
quotient_grows m n zero l = omega (arith, div-zero m, div-zero n)
quotient_grows m n (suc k) l = le-div (m / suc k) n (suc k) (omega arith) (omega (arith, div-mul-le_self m (suc k), l))

twice : (a b k : ℕ) → (a + b) * k ≡ a * k + b * k
twice a b k = omega (arith, mul-add k a b)

quotients_within : (m n k : ℕ) → m / k + n / k ≤ (m + n) / k
quotients_within m n zero = omega (arith, div-zero m, div-zero n)
quotients_within m n (suc k) =
    le-div (m / suc k + n / suc k) (m + n) (suc k) (omega arith)
    (omega (arith, twice (m / suc k) (n / suc k) (suc k), div-mul-le_self m (suc k), div-mul-le_self n (suc k)))

-- the part of the whole is the value
pub part_whole : (value whole : ℕ) → part value whole whole ≤ value
part_whole value zero = omega (arith, div-zero (value * 0))
part_whole value (suc w) =
    omega (arith, ap (λ n. n / suc w) (sym (add_nothing (value * suc w))), div-mul-add value (suc w) 0 (omega arith)) where
      add_nothing : (n : ℕ) → n + 0 ≡ n
      add_nothing n = omega arith

-- more of the whole is a greater part
pub part_grows : (value few more whole : ℕ) → few ≤ more → part value few whole ≤ part value more whole
part_grows value few more whole l = quotient_grows (value * few) (value * more) whole (mul-le-mul_left value l)

pub part_within : (value some whole : ℕ) → some ≤ whole → part value some whole ≤ value
part_within value some whole l = omega (arith, part_grows value some whole whole l, part_whole value whole)

-- the parts of what the wholes make up, and of what is left over, are together the part of all
pub part_split : (value parts whole : ℕ) → 0 < whole → value / whole * parts + value % whole * parts / whole ≡ part value parts whole
part_split value parts whole some =
    let apart : value * parts ≡ value % whole * parts + whole * (value / whole * parts) =
    ap (λ n. n * parts) (sym (mod-add-div value whole))
    ∙ (twice (value % whole) (whole * (value / whole)) parts ∙ ap (λ n. value % whole * parts + n) (mul_assoc whole (value / whole) parts)) in
    let joined : value * parts / whole ≡ value % whole * parts / whole + value / whole * parts =
    ap (λ n. n / whole) apart ∙ add-mul-div_left (value % whole * parts) (value / whole * parts) some in
    omega (arith, joined)

pub two_parts : (value a b whole : ℕ) → part value a whole + part value b whole ≤ part value (a + b) whole
two_parts value a b whole = omega (arith, quotients_within (value * a) (value * b) whole, ap (λ n. n / whole) (sym (mul-add value a b)))

-- the parts that belong to some amounts are together at most the part of all amounts
pub parts_within : {X : Type 0} (amount : X → ℕ) (value whole : ℕ) (xs : List X)
    → sum_by (λ x. part value (amount x) whole) xs ≤ part value (sum_by amount xs) whole
parts_within amount value whole [] = omega arith
parts_within {X = X} amount value whole (x ∷ xs) =
    let rest : sum_by (λ x. part value (amount x) whole) xs ≤ part value (sum_by amount xs) whole = parts_within amount value whole xs in
    let all : (value * amount x + value * sum_by amount xs) / whole ≡ part value (sum_by amount (x ∷ xs)) whole =
    ap (λ n. n / whole) (sym (mul-add value (amount x) (sum_by amount xs))) ∙ ap (λ n. value * n / whole) (sym (sum_by-cons amount x xs)) in
    omega (arith, sum_by-cons (λ (y : X). part value (amount y) whole) x xs, rest, quotients_within (value * amount x) (value * sum_by amount xs) whole, all)

-- a report after a smaller one makes due what is more
pub due_after : (amount kept fraction : ℕ) → kept ≤ fraction
    → due amount kept fraction + part amount kept WHOLE_FRACTION ≡ part amount fraction WHOLE_FRACTION
due_after amount kept fraction l = omega (arith, part_grows amount kept fraction WHOLE_FRACTION l)
