-- What points that join the leaves, and those that are paid out, leave.
use Rattle.std.proofs.Common.{◌≡◌, ◌==◌, ℕ, ◌+◌, ◌-◌, ◌<◌, ◌≤◌, true, false, Bool, cond, List, [], ◌∷◌, ◌++◌, length, slice_set, slice_index_or, refl, ap, sym, ◌∙◌, subst, arith, nat_lt, nat_le}
use Rattle.std.proofs.lemmas.List.Sums.{sum_by-cons}
use Rattle.std.proofs.lemmas.List.Filters.{sum_by-filter_both}
use Rattle.std.proofs.lemmas.Grind.{common_steps}
use Rattle.stake_pools.specs.declared.leaves.Leave.{Leave}
use Rattle.stake_pools.specs.Leaves.{leaving, with_leave, joins_last, due_leaves, later_leaves}

-- one more leave in front does not change whether the points join the last
joins_last-cons : (release : ℕ) (c d : Leave) (later : List Leave) → joins_last release (c ∷ d ∷ later) ≡ joins_last release (d ∷ later)
joins_last-cons release c d later = grind (arith, common_steps)

joined_at : (points release : ℕ) (c : Leave) (later : List Leave) (x : Leave) → joins_last release (c ∷ later) ≡ true
    → x ≡ slice_index_or (c ∷ later) (length later) x
    → with_leave points release (c ∷ later) ≡ slice_set (c ∷ later) (length later) (record { points = x.points + points; release = x.release })
joined_at points release c [] x joins is = rw (joins, is) refl
joined_at points release c (d ∷ later) x joins is = ap (λ l. c ∷ l) (joined_at points release d later x (sym (joins_last-cons release c d later) ∙ joins) is)

put_at : (points release : ℕ) (c : Leave) (later : List Leave) → joins_last release (c ∷ later) ≡ false
    → with_leave points release (c ∷ later) ≡ (c ∷ later) ++ record { points = points; release = release } ∷ []
put_at points release c [] apart = rw apart refl
put_at points release c (d ∷ later) apart = ap (λ l. c ∷ l) (put_at points release d later (sym (joins_last-cons release c d later) ∙ apart))

-- points that join the last leave make that one grow
pub joined : (points release : ℕ) (leaves : List Leave) (x : Leave) (n : ℕ) → n ≡ length leaves → joins_last release leaves ≡ true
    → x ≡ slice_index_or leaves (n - 1) x
    → slice_set leaves (n - 1) (record { points = x.points + points; release = x.release }) ≡ with_leave points release leaves
joined points release [] x n e joins is = cc
joined points release (c ∷ later) x n e joins is =
    let last : n - 1 ≡ length later = omega arith in
    subst (λ k. slice_set (c ∷ later) k (record { points = x.points + points; release = x.release }) ≡ with_leave points release (c ∷ later)) (sym last)
    (sym (joined_at points release c later x joins (subst (λ k. x ≡ slice_index_or (c ∷ later) k x) last is)))

-- then there is a last leave, which holds no more than all together
pub nonempty : (release : ℕ) (leaves : List Leave) → joins_last release leaves ≡ true → 0 < length leaves
nonempty release [] joins = cc
nonempty release (c ∷ later) joins = omega arith

-- points that join none are put last
pub put_last : (points release : ℕ) (leaves : List Leave) → joins_last release leaves ≡ false
    → with_leave points release leaves ≡ leaves ++ record { points = points; release = release } ∷ []
put_last points release [] apart = refl
put_last points release (c ∷ later) apart = put_at points release c later apart

cons_sum : (c : Leave) (later : List Leave) → leaving (c ∷ later) ≡ c.points + leaving later
cons_sum c later = sum_by-cons (λ (leave : Leave). leave.points) c later

single_sum : (b : Bool) (points release : ℕ) (c : Leave)
    → leaving (cond b (record c { points = c.points + points } ∷ []) (c ∷ record { points = points; release = release } ∷ [])) ≡ leaving (c ∷ []) + points
single_sum true points release c = grind (arith, common_steps)
single_sum false points release c = grind (arith, common_steps)

-- the leaves have so many points more
pub leaving-with_leave : (points release : ℕ) (leaves : List Leave) → leaving (with_leave points release leaves) ≡ leaving leaves + points
leaving-with_leave points release [] = grind (arith, common_steps)
leaving-with_leave points release (c ∷ []) = single_sum (c.release == release) points release c
leaving-with_leave points release (c ∷ d ∷ later) =
    omega (arith, cons_sum c (with_leave points release (d ∷ later)), cons_sum c (d ∷ later), leaving-with_leave points release (d ∷ later))

-- what is paid out and what is not is all
pub leaving-parts : (era : ℕ) (leaves : List Leave) → leaving (due_leaves era leaves) + leaving (later_leaves era leaves) ≡ leaving leaves
leaving-parts era leaves =
    sum_by-filter_both (λ (c : Leave). nat_le c.release era) (λ (c : Leave). nat_lt era c.release) (λ c. grind (arith, common_steps)) (λ (c : Leave). c.points) leaves

-- so what is paid out is no more than all
pub leaving_parts : (era : ℕ) (leaves : List Leave) → leaving (due_leaves era leaves) ≤ leaving leaves
leaving_parts era leaves = omega (arith, leaving-parts era leaves)
