-- Facts about lists that the proofs of packed verdicts share.
use Rattle.std.proofs.Common.{◌≡◌, ℕ, zero, suc, ◌+◌, ◌<◌, ◌≤◌, Bool, true, false, nat_eq, List, [], ◌∷◌, ◌++◌, map, filter, get_or, Some, None, find, All, inl, inr, refl, sym, ap₂, ◌∙◌, arith}
use Rattle.std.specs.List.{IsDistinct, AllByRecursion, flat_map, range_with_len}
use Rattle.std.proofs.lemmas.Bool.{cases_Bool, true≢false, or_left, or_right, eq-eqb, ne_eqb, cases_eq}
use Rattle.std.proofs.lemmas.List.{map-append}
use Rattle.std.proofs.lemmas.List.Elements.{All-nil, All-cons, All-head, All-tail, All-append}
use Rattle.election_snapshot.specs.Snapshot.{has}

pub find_none_all : {X : Type 0} (p : X → Bool) (xs : List X) → find p xs ≡ None → All (λ x. p x ≡ false) xs
find_none_all {X = X} p [] none = All-nil (λ x. p x ≡ false)
find_none_all {X = X} p (x ∷ xs) none = elim (cases_Bool (p x)) [
  | inl t ↦ absurd (let some : Some x ≡ None = rw t at none in cc)
  | inr t ↦ All-cons (λ y. p y ≡ false) x xs t (find_none_all p xs (rw t at none))
]

pub All-of_map : {X Y : Type 0} (P : Y → Type 0) (f : X → Y) (xs : List X) → All P (map f xs) → All (λ x. P (f x)) xs
All-of_map P f [] all = All-nil (λ x. P (f x))
All-of_map P f (x ∷ xs) all = All-cons (λ y. P (f y)) x xs (All-head P (f x) (map f xs) all) (All-of_map P f xs (All-tail P (f x) (map f xs) all))

pub All-flat_map : {X Y : Type 0} (P : Y → Type 0) (f : X → List Y) (xs : List X) → All (λ x. All P (f x)) xs → All P (flat_map f xs)
All-flat_map P f [] all = All-nil P
All-flat_map P f (x ∷ xs) all = All-append P (f x) (flat_map f xs) (All-head (λ y. All P (f y)) x xs all) (All-flat_map P f xs (All-tail (λ y. All P (f y)) x xs all))

pub map-flat_map : {X Y Z : Type 0} (g : Y → Z) (f : X → List Y) (h : X → List Z) → ((x : X) → map g (f x) ≡ h x) → (xs : List X) → map g (flat_map f xs) ≡ flat_map h xs
map-flat_map g f h same [] = refl
map-flat_map g f h same (x ∷ xs) = map-append g (f x) (flat_map f xs) ∙ ap₂ (λ a b. a ++ b) (same x) (map-flat_map g f h same xs)

-- ## Numbers that stand in lists

pub has-cons : (x : ℕ) (xs : List ℕ) (n : ℕ) → has xs n ≡ true → has (x ∷ xs) n ≡ true
has-cons x xs n h = or_right (nat_eq x n) (has xs n) h

pub has-head : (x : ℕ) (xs : List ℕ) → has (x ∷ xs) x ≡ true
has-head x xs = or_left (nat_eq x x) (has xs x) (eq-eqb x x refl)

pub all_stand : (xs : List ℕ) → All (λ x. has xs x ≡ true) xs
all_stand [] = All-nil (λ x. has [] x ≡ true)
all_stand (x ∷ xs) = All-cons (λ y. has (x ∷ xs) y ≡ true) x xs (has-head x xs) (λ k d below. has-cons x xs (get_or xs k d) (all_stand xs k d below))

pub has_range : (low count n : ℕ) → low ≤ n → n < low + count → has (range_with_len low count) n ≡ true
has_range low zero n from below = absurd (omega arith)
has_range low (suc count) n from below = elim (cases_Bool (nat_eq low n)) [
  | inl t ↦ or_left (nat_eq low n) (has (range_with_len (low + 1) count) n) t
  | inr t ↦ or_right (nat_eq low n) (has (range_with_len (low + 1) count) n) (has_range (low + 1) count n (above t) (omega (arith, below)))
]
  where
    above : nat_eq low n ≡ false → low + 1 ≤ n
    above t = elim (cases_eq low n) [
      | inl same ↦ absurd (true≢false (sym (eq-eqb low n same) ∙ t))
      | inr other ↦ omega (arith, from, other)
    ]

-- the numbers of a range that pass
pub range_within : (p : ℕ → Bool) (low count : ℕ) → AllByRecursion (λ n. (low ≤ n) × (n < low + count)) (filter p (range_with_len low count))
range_within p low zero = tt
range_within p low (suc count) = elim (cases_Bool (p low)) [
  | inl t ↦ rw t ((omega arith, omega arith), wider (filter p (range_with_len (low + 1) count)) (range_within p (low + 1) count))
  | inr t ↦ rw t (wider (filter p (range_with_len (low + 1) count)) (range_within p (low + 1) count))
]
  where
    wider : (xs : List ℕ) → AllByRecursion (λ n. (low + 1 ≤ n) × (n < low + 1 + count)) xs → AllByRecursion (λ n. (low ≤ n) × (n < low + suc count)) xs
    wider [] all = tt
    wider (x ∷ xs) all = ((omega (arith, all.0.0), omega (arith, all.0.1)), wider xs all.1)

pub range_distinct : (p : ℕ → Bool) (low count : ℕ) → IsDistinct nat_eq (filter p (range_with_len low count))
unfolding IsDistinct
range_distinct p low zero = tt
range_distinct p low (suc count) = elim (cases_Bool (p low)) [
  | inl t ↦ rw t (apart (filter p (range_with_len (low + 1) count)) (range_within p (low + 1) count), range_distinct p (low + 1) count)
  | inr t ↦ rw t (range_distinct p (low + 1) count)
]
  where
    apart : (xs : List ℕ) → AllByRecursion (λ n. (low + 1 ≤ n) × (n < low + 1 + count)) xs → AllByRecursion (λ n. nat_eq low n ≡ false) xs
    apart [] all = tt
    apart (x ∷ xs) all = (ne_eqb low x (λ same. omega (arith, all.0.0, same)), apart xs all.1)

-- ## Distinct lists

pub IsDistinct-append : {X : Type 0} (same : X → X → Bool) (xs ys : List X) → IsDistinct same xs → IsDistinct same ys
    → AllByRecursion (λ x. AllByRecursion (λ y. same x y ≡ false) ys) xs → IsDistinct same (xs ++ ys)
unfolding IsDistinct
IsDistinct-append same [] ys here there apart = there
IsDistinct-append {X = X} same (x ∷ xs) ys here there apart = (all-append xs here.0, IsDistinct-append same xs ys here.1 there apart.1)
  where
    all-append : (zs : List X) → AllByRecursion (λ y. same x y ≡ false) zs → AllByRecursion (λ y. same x y ≡ false) (zs ++ ys)
    all-append [] all = apart.0
    all-append (z ∷ zs) all = (all.0, all-append zs all.1)
