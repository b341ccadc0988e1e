-- The search for the height of a level.
use Rattle.std.proofs.Common.{◌≡◌, ℕ, zero, suc, ◌+◌, ◌*◌, ◌/◌, ◌<◌, ◌≤◌, Bool, true, false, nat_le, List, [], ◌∷◌, length, filter, map, sum, get_or, All, inl, inr, refl, ap, sym, ◌∙◌, arith}
use Rattle.std.proofs.Math.Nat.{mul-suc, mul-div-le, mul_comm, mul-add, div-add-mod, div-lt_iff_lt-mul}
use Rattle.std.proofs.lemmas.Nat.{mod_below}
use Rattle.std.proofs.lemmas.List.Elements.{All-head, All-tail, All-map}
use Rattle.std.proofs.lemmas.Bool.{cases_lt, cases_Bool}
use Rattle.std.proofs.lemmas.List.{map-id, length-map}
use Rattle.npos_base.specs.declared.figures.Edge.{Edge}
use Rattle.support_balance.specs.Levels.{low, IsLevel, bases, base_of}
use Rattle.support_balance.specs.Rows.{IsRow}
use Rattle.support_balance.proofs.LevelLemmas.{low_some, low_none, longer}

-- The pool of those up to the most, and the height to which the stake would raise all of it. What it leaves out lies above
-- that height too.
pub record IsPool (stake : ℕ) (xs : List ℕ) (most total count highest height : ℕ) : Type 0 where
  pub total_is : total ≡ sum (low most xs)
  pub count_is : count ≡ length (low most xs)
  pub below : All (λ x. x ≤ highest) (low most xs)
  pub some : 1 ≤ count
  pub height_is : height ≡ (stake + total) / count
  pub outside : All (λ x. most < x → height < x) xs

low_is_low : (most height : ℕ) (xs : List ℕ) → All (λ x. most < x → height < x) xs → All (λ x. x ≤ height) (low most xs) → low most xs ≡ low height xs
low_is_low most height [] out below = refl
low_is_low most height (x ∷ xs) out below = elim (cases_lt most x) [
  | inl l ↦ rw (low_none most x xs l, low_none height x xs (All-head (λ x. most < x → height < x) x xs out l))
      (low_is_low most height xs (All-tail (λ x. most < x → height < x) x xs out) (rw (low_none most x xs l) at below))
  | inr l ↦
      let both : All (λ x. x ≤ height) (x ∷ low most xs) = rw (low_some most x xs l) at below in
      rw (low_some most x xs l, low_some height x xs (All-head (λ x. x ≤ height) x (low most xs) both))
      (ap (λ ys. x ∷ ys) (low_is_low most height xs (All-tail (λ x. most < x → height < x) x xs out) (All-tail (λ x. x ≤ height) x (low most xs) both)))
]

-- Any part of the numbers, against those up to a height: what else it has lies above the height, and what it lacks does not.
part_above : {X : Type 0} (value : X → ℕ) (picks : X → Bool) (height : ℕ) (xs : List X)
    → sum (low height (map value xs)) + (height + 1) * length (filter picks xs)
    ≤ sum (map value (filter picks xs)) + (height + 1) * length (low height (map value xs))
part_above value picks height [] = omega arith
part_above value picks height (x ∷ xs) =
    let rest = part_above value picks height xs in
    let picked = filter picks xs in
    let lower = low height (map value xs) in
    let one_more : (height + 1) * length (x ∷ picked) ≡ (height + 1) * length picked + (height + 1) = mul-suc (height + 1) (length picked) in
    let one_lower : (height + 1) * length (value x ∷ lower) ≡ (height + 1) * length lower + (height + 1) = mul-suc (height + 1) (length lower) in
    elim (cases_Bool (picks x)) [
      | inl t ↦ elim (cases_lt height (value x)) [
        | inl m ↦ rw (t, low_none height (value x) (map value xs) m) (omega (arith, rest, m, one_more, longer (value x) (map value picked)))
        | inr m ↦ rw (t, low_some height (value x) (map value xs) m)
            (omega (arith, rest, one_more, one_lower, longer (value x) (map value picked), longer (value x) lower))
      ]
      | inr f ↦ elim (cases_lt height (value x)) [
        | inl m ↦ rw (f, low_none height (value x) (map value xs) m) rest
        | inr m ↦ rw (f, low_some height (value x) (map value xs) m) (omega (arith, rest, m, one_lower, longer (value x) lower))
      ]
    ]

quotient : (n k : ℕ) → 1 ≤ k → (k * (n / k) ≤ n) × (n < (n / k + 1) * k)
quotient n k some = (mul-div-le n k, omega (arith, div-add-mod n k, mod_below n k (omega (arith, some)), mul_comm (n / k + 1) k, mul-add k (n / k) 1))

pub level_at : (stake : ℕ) (xs : List ℕ) (most total count highest height above : ℕ) → IsPool stake xs most total count highest height
    → highest ≤ height → stake + total ≡ height * count + above → IsLevel stake xs height above
level_at stake xs most total count highest height above pool end e =
    let same = low_is_low most height xs pool.outside (λ k d h. omega (arith, pool.below k d h, end)) in
    let (_, less) = quotient (stake + total) count pool.some in
    let less' : stake + total < (height + 1) * count = rw (sym pool.height_is) at less in
    record {
      volume = rw (sym same, sym pool.total_is, sym pool.count_is) e;
      part = rw (sym same, sym pool.count_is) (omega (arith, e, less', mul_comm (height + 1) count, mul-add count height 1, mul_comm count height));
    }

-- so high that those up to it, with the stake, do not reach a unit above it
abbrev pub IsBound : ℕ → List ℕ → ℕ → Type 0
IsBound stake xs bound = stake + sum (low bound xs) < (bound + 1) * length (low bound xs)

-- as is what any part of them would be raised to
pub part_bound : {X : Type 0} (value : X → ℕ) (picks : X → Bool) (stake : ℕ) (xs : List X) (total count : ℕ)
    → total ≡ sum (map value (filter picks xs)) → count ≡ length (filter picks xs) → 1 ≤ count → IsBound stake (map value xs) ((stake + total) / count)
part_bound value picks stake xs total count t c some =
    let (_, less) = quotient (stake + total) count some in
    omega (arith, less, above ((stake + total) / count))
  where
    above : (height : ℕ) → sum (low height (map value xs)) + (height + 1) * count ≤ total + (height + 1) * length (low height (map value xs))
    above height = rw (t, c) (part_above value picks height xs)

-- the pool of a bound
pub bounded_pool : (stake : ℕ) (xs : List ℕ) (bound : ℕ) → IsBound stake xs bound
    → (total count highest : ℕ) → total ≡ sum (low bound xs) → count ≡ length (low bound xs) → All (λ x. x ≤ highest) (low bound xs)
    → IsPool stake xs bound total count highest ((stake + total) / count)
bounded_pool stake xs bound is total count highest t c b =
    record { total_is = t; count_is = c; below = b; some = some; height_is = refl; outside = λ k d l m. omega (arith, m, no_higher) }
  where
    less : stake + total < (bound + 1) * count
    less = rw (t, c) is

    some : 1 ≤ count
    some = positive count less where
      positive : (n : ℕ) → stake + total < (bound + 1) * n → 1 ≤ n
      positive zero l = absurd (omega (arith, l))
      positive (suc n) l = omega arith

    no_higher : (stake + total) / count ≤ bound
    no_higher = omega (arith, lower)
      where
        lower : (stake + total) / count < bound + 1
        lower = (div-lt_iff_lt-mul {k = count} {x = stake + total} {y = bound + 1} (omega (arith, some))).1 less

-- the next pool, of what is up to the height
pub next_pool : (stake : ℕ) (xs : List ℕ) (most total count highest height : ℕ) → IsPool stake xs most total count highest height
    → (total' count' highest' : ℕ) → total' ≡ sum (low height xs) → count' ≡ length (low height xs) → All (λ x. x ≤ highest') (low height xs)
    → IsPool stake xs height total' count' highest' ((stake + total') / count')
next_pool stake xs most total count highest height pool = bounded_pool stake xs height (rw (sym pool.height_is) at bound)
  where
    bound : IsBound stake xs ((stake + total) / count)
    bound = rw (map-id xs) at (part_bound (λ x. x) (λ x. nat_le x most) stake xs total count
        (pool.total_is ∙ ap (λ (ys : List ℕ). sum ys) (sym (map-id (low most xs)))) pool.count_is pool.some)

-- a part that is those up to a height
part_low : {X : Type 0} (value : X → ℕ) (picks : X → Bool) (height : ℕ) (xs : List X) → All (λ x. picks x ≡ true → value x ≤ height) xs
    → All (λ x. picks x ≡ false → height < value x) xs → low height (map value xs) ≡ map value (filter picks xs)
part_low value picks height [] picked others = refl
part_low value picks height (x ∷ xs) picked others =
    let rest = part_low value picks height xs (All-tail (λ x. picks x ≡ true → value x ≤ height) x xs picked)
    (All-tail (λ x. picks x ≡ false → height < value x) x xs others) in
    elim (cases_Bool (picks x)) [
      | inl t ↦ rw (t, low_some height (value x) (map value xs) (All-head (λ x. picks x ≡ true → value x ≤ height) x xs picked t)) (ap (λ ys. value x ∷ ys) rest)
      | inr f ↦ rw (f, low_none height (value x) (map value xs) (All-head (λ x. picks x ≡ false → height < value x) x xs others f)) rest
    ]

-- the level of such a part
pub part_level : {X : Type 0} (value : X → ℕ) (picks : X → Bool) (stake : ℕ) (xs : List X) (total count above : ℕ)
    → total ≡ sum (map value (filter picks xs)) → count ≡ length (filter picks xs) → 1 ≤ count
    → All (λ x. picks x ≡ true → value x ≤ (stake + total) / count) xs → All (λ x. picks x ≡ false → (stake + total) / count < value x) xs
    → above + (stake + total) / count * count ≡ stake + total → IsLevel stake (map value xs) ((stake + total) / count) above
part_level value picks stake xs total count above t c some picked others e =
    let height = (stake + total) / count in
    let same = part_low value picks height xs picked others in
    let count_is : length (map value (filter picks xs)) ≡ count = length-map (filter picks xs) value ∙ sym c in
    let (_, less) = quotient (stake + total) count some in
    record {
      volume = rw (same, sym t, count_is) (omega (arith, e));
      part = rw (same, count_is) (omega (arith, e, less, mul_comm (height + 1) count, mul-add count height 1, mul_comm count height));
    }

low_all : (most : ℕ) (xs : List ℕ) → All (λ x. x ≤ most) xs → low most xs ≡ xs
low_all most [] all = refl
low_all most (x ∷ xs) all = rw (low_some most x xs (All-head (λ x. x ≤ most) x xs all)) (ap (λ ys. x ∷ ys) (low_all most xs (All-tail (λ x. x ≤ most) x xs all)))

-- a cap that is above all of them makes a pool of all
pub first_pool : (stake : ℕ) (xs : List ℕ) (most total count highest : ℕ) → 1 ≤ length xs → All (λ x. x ≤ most) xs
    → total ≡ sum (low most xs) → count ≡ length (low most xs) → All (λ x. x ≤ highest) (low most xs)
    → IsPool stake xs most total count highest ((stake + total) / count)
first_pool stake xs most total count highest some all t c b = record {
  total_is = t;
  count_is = c;
  below = b;
  some = omega (arith, c, ap (λ (ys : List ℕ). length ys) (low_all most xs all), some);
  height_is = refl;
  outside = λ k d l m. absurd (omega (arith, m, all k d l));
}

pub height_fits : (stake : ℕ) (xs : List ℕ) (most total count highest height : ℕ) → IsPool stake xs most total count highest height
    → height * count ≤ stake + total
height_fits stake xs most total count highest height pool =
    rw pool.height_is (omega (arith, mul-div-le (stake + total) count, mul_comm count ((stake + total) / count)))

pub bases_small : (supports : List ℕ) (row : List Edge) → IsRow supports row → All (λ x. x ≤ 340282366920938463463374607431768211455) (bases supports row)
bases_small supports row sound = All-map (λ x. x ≤ 340282366920938463463374607431768211455) (base_of supports) row
    (λ k d h. omega (arith, sound.small (get_or row k d).target))
