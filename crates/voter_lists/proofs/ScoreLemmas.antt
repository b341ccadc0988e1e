-- Where thresholds rise, those below a score are the first ones.
use Rattle.std.proofs.Common.{◌≡◌, ℕ, zero, suc, ◌<◌, ◌≤◌, Bool, true, false, List, [], ◌∷◌, length, get_or, ap, ◌∙◌, arith, cond, count_by}
use Rattle.std.specs.List.Sorted.{IsNonDecreasingBy}
use Rattle.std.proofs.lemmas.List.Sums.{sum_by-cons}
use Rattle.voter_lists.specs.Bags.{IsRisingFrom}

above : (low : ℕ) (xs : List ℕ) → IsRisingFrom low xs → (j : ℕ) (d : ℕ) → j < length xs → low < get_or xs j d
above low [] rising j d within = absurd (omega (arith, within))
above low (x ∷ xs) rising zero d within = rising.0
above low (x ∷ xs) rising (suc j) d within = let rest = above x xs rising.1 j d (omega (arith, within)) in omega (arith, rest, rising.0)

pub rising_grows : (low : ℕ) (xs : List ℕ) → IsRisingFrom low xs → IsNonDecreasingBy (λ x. x) xs
rising_grows low [] rising i j d before within = absurd (omega (arith, within))
rising_grows low (x ∷ xs) rising zero zero d before within = omega arith
rising_grows low (x ∷ xs) rising zero (suc j) d before within = let rest = above x xs rising.1 j d (omega (arith, within)) in omega (arith, rest)
rising_grows low (x ∷ xs) rising (suc i) zero d before within = absurd (omega (arith, before))
rising_grows low (x ∷ xs) rising (suc i) (suc j) d before within = rising_grows x xs rising.1 i j d (omega (arith, before)) (omega (arith, within))

-- a test that holds of the first ones and of no other holds so often
pub count_first : (p : ℕ → Bool) (xs : List ℕ) (i : ℕ) → i ≤ length xs → ((k d : ℕ) → k < i → p (get_or xs k d) ≡ true) → ((k d : ℕ) → i ≤ k → k < length xs → p (get_or xs k d) ≡ false)
    → count_by p xs ≡ i
count_first p [] i within passes fails = omega (arith, within)
count_first p (x ∷ xs) zero within passes fails =
    let rest = count_first p xs zero (omega arith) (λ k d lt. absurd (omega (arith, lt))) (λ k d le lt. fails (suc k) d (omega (arith, le)) (omega (arith, lt))) in
    let here : ◌≡◌ {A = ℕ} (cond (p x) 1 0) 0 = ap (λ b. cond b 1 0) (fails 0 0 (omega arith) (omega arith)) in
    sum_by-cons (λ y. cond (p y) 1 0) x xs ∙ omega (arith, here, rest)
count_first p (x ∷ xs) (suc i) within passes fails =
    let rest = count_first p xs i (omega (arith, within)) (λ k d lt. passes (suc k) d (omega (arith, lt))) (λ k d le lt. fails (suc k) d (omega (arith, le)) (omega (arith, lt))) in
    let here : ◌≡◌ {A = ℕ} (cond (p x) 1 0) 1 = ap (λ b. cond b 1 0) (passes 0 0 (omega arith)) in
    sum_by-cons (λ y. cond (p y) 1 0) x xs ∙ omega (arith, here, rest)
