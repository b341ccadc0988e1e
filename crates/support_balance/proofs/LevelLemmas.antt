-- What a level gives: the whole stake, and no unit that could lie lower.
use Rattle.std.proofs.Common.{◌≡◌, ◌≢◌, ℕ, zero, suc, ◌+◌, ◌*◌, ◌^◌, ◌-◌, ◌<◌, ◌≤◌, ◌⊎◌, min, List, [], ◌∷◌, length, sum, get_or, All, inl, inr, refl, ap, arith}
use Rattle.std.proofs.Math.Nat.{mul-suc}
use Rattle.std.proofs.lemmas.Bool.{cases_lt, le-leb, lt-leb}
use Rattle.std.proofs.lemmas.List.{get_or_default}
use Rattle.std.proofs.lemmas.List.Sums.{sum_by-cons}
use Rattle.support_balance.specs.Levels.{low, IsLevel, filled}

pub low_some : (h x : ℕ) (xs : List ℕ) → x ≤ h → low h (x ∷ xs) ≡ x ∷ low h xs
low_some h x xs l = rw (le-leb x h l) refl

pub low_none : (h x : ℕ) (xs : List ℕ) → h < x → low h (x ∷ xs) ≡ low h xs
low_none h x xs l = rw (lt-leb x h l) refl

-- the sum of a longer list
pub longer : (x : ℕ) (xs : List ℕ) → sum (x ∷ xs) ≡ x + sum xs
longer x xs = sum_by-cons (λ n. n) x xs

filled_some : (h a x : ℕ) (xs : List ℕ) → x ≤ h → filled h a (x ∷ xs) ≡ (h - x + min a 1) ∷ filled h (a - min a 1) xs
filled_some h a x xs l = rw (le-leb x h l) refl

filled_none : (h a x : ℕ) (xs : List ℕ) → h < x → filled h a (x ∷ xs) ≡ 0 ∷ filled h a xs
filled_none h a x xs l = rw (lt-leb x h l) refl

pub length-filled : (h a : ℕ) (xs : List ℕ) → length (filled h a xs) ≡ length xs
length-filled h a [] = refl
length-filled h a (x ∷ xs) = elim (cases_lt h x) [
  | inl l ↦ rw (filled_none h a x xs l) (ap (λ n. suc n) (length-filled h a xs))
  | inr l ↦ rw (filled_some h a x xs l) (ap (λ n. suc n) (length-filled h (a - min a 1) xs))
]

-- the amounts fill the level
filled_volume : (h a : ℕ) (xs : List ℕ) → a ≤ length (low h xs)
    → sum (filled h a xs) + sum (low h xs) ≡ h * length (low h xs) + a
filled_volume h a [] e = omega (arith, e)
filled_volume h a (x ∷ xs) e = elim (cases_lt h x) [
  | inl l ↦ rw (filled_none h a x xs l, low_none h x xs l) (omega (arith, longer 0 (filled h a xs), filled_volume h a xs (rw (low_none h x xs l) at e)))
  | inr l ↦
      let within : a ≤ length (x ∷ low h xs) = rw (low_some h x xs l) at e in
      let more : h * length (x ∷ low h xs) ≡ h * length (low h xs) + h = mul-suc h (length (low h xs)) in
      rw (filled_some h a x xs l, low_some h x xs l) (omega (
        arith,
        l,
        within,
        filled_volume h (a - min a 1) xs
            (omega (arith, within)),
        more,
        longer x (low h xs),
        longer (h - x + min a 1) (filled h (a - min a 1) xs),
      ))
]

pub filled_whole : (stake h a : ℕ) (xs : List ℕ) → IsLevel stake xs h a → sum (filled h a xs) ≡ stake
filled_whole stake h a xs level = omega (arith, level.volume, filled_volume h a xs (omega (arith, level.part)))

-- a covered one ends at the height or a unit above it, the others get nothing and lie above it
filled_covered : (h a : ℕ) (xs : List ℕ) (i : ℕ) → i < length xs → get_or xs i 0 ≤ h
    → (h ≤ get_or xs i 0 + get_or (filled h a xs) i 0) × (get_or xs i 0 + get_or (filled h a xs) i 0 ≤ h + min a 1)
filled_covered h a [] i l c = absurd (omega arith)
filled_covered h a (x ∷ xs) zero l c = rw (filled_some h a x xs c) (omega arith, omega arith)
filled_covered h a (x ∷ xs) (suc i) l c = elim (cases_lt h x) [
  | inl m ↦ rw (filled_none h a x xs m) (filled_covered h a xs i (omega arith) c)
  | inr m ↦
      let rest = filled_covered h (a - min a 1) xs i (omega arith) c in
      rw (filled_some h a x xs m) (omega (arith, rest.0), omega (arith, rest.1))
]

filled_bare : (h a : ℕ) (xs : List ℕ) (i : ℕ) → i < length xs → h < get_or xs i 0 → get_or (filled h a xs) i 0 ≡ 0
filled_bare h a [] i l c = absurd (omega arith)
filled_bare h a (x ∷ xs) zero l c = rw (filled_none h a x xs c) refl
filled_bare h a (x ∷ xs) (suc i) l c = elim (cases_lt h x) [
  | inl m ↦ rw (filled_none h a x xs m) (filled_bare h a xs i (omega arith) c)
  | inr m ↦ rw (filled_some h a x xs m) (filled_bare h (a - min a 1) xs i (omega arith) c)
]

-- the units above the height go to the first ones
filled_first : (h a : ℕ) (xs : List ℕ) (i j : ℕ) → i < length xs → j < i → get_or xs i 0 ≤ h → get_or xs j 0 ≤ h
    → get_or xs i 0 + get_or (filled h a xs) i 0 ≤ get_or xs j 0 + get_or (filled h a xs) j 0
filled_first h a [] i j l m c d = absurd (omega arith)
filled_first h a (x ∷ xs) zero j l m c d = absurd (omega arith)
filled_first h a (x ∷ xs) (suc i) zero l m c d =
    let rest = filled_covered h (a - min a 1) xs i (omega arith) c in
    rw (filled_some h a x xs d) (omega (arith, rest.1))
filled_first h a (x ∷ xs) (suc i) (suc j) l m c d = elim (cases_lt h x) [
  | inl o ↦ rw (filled_none h a x xs o) (filled_first h a xs i j (omega arith) (omega arith) c d)
  | inr o ↦ rw (filled_some h a x xs o) (filled_first h (a - min a 1) xs i j (omega arith) (omega arith) c d)
]

pub filled_even : (h a : ℕ) (xs : List ℕ) (i j : ℕ) → i < length xs → j < length xs → i ≢ j → 0 < get_or (filled h a xs) i 0
    → (get_or xs i 0 + get_or (filled h a xs) i 0 ≤ get_or xs j 0 + get_or (filled h a xs) j 0)
    ⊎ ((get_or xs i 0 + get_or (filled h a xs) i 0 ≡ get_or xs j 0 + get_or (filled h a xs) j 0 + 1) × (i < j))
filled_even h a xs i j li lj ne some = elim (cases_lt h (get_or xs i 0)) [
  | inl bare ↦ absurd (omega (arith, filled_bare h a xs i li bare, some))
  | inr one ↦ elim (cases_lt h (get_or xs j 0)) [
    | inl bare ↦ inl (omega (arith, (filled_covered h a xs i li one).1, bare))
    | inr other ↦ elim (cases_lt i j) [
      | inl before ↦ close (filled_covered h a xs i li one) (filled_covered h a xs j lj other) before
      | inr behind ↦ inl (filled_first h a xs i j li (omega (arith, behind, ne)) one other)
    ]
  ]
] where
  close : (h ≤ get_or xs i 0 + get_or (filled h a xs) i 0) × (get_or xs i 0 + get_or (filled h a xs) i 0 ≤ h + min a 1)
      → (h ≤ get_or xs j 0 + get_or (filled h a xs) j 0) × (get_or xs j 0 + get_or (filled h a xs) j 0 ≤ h + min a 1) → i < j
      → (get_or xs i 0 + get_or (filled h a xs) i 0 ≤ get_or xs j 0 + get_or (filled h a xs) j 0)
      ⊎ ((get_or xs i 0 + get_or (filled h a xs) i 0 ≡ get_or xs j 0 + get_or (filled h a xs) j 0 + 1) × (i < j))
  close p q before = elim (cases_lt (get_or xs j 0 + get_or (filled h a xs) j 0) (get_or xs i 0 + get_or (filled h a xs) i 0)) [
    | inl m ↦ inr (omega (arith, p.1, q.0, m), before)
    | inr m ↦ inl m
  ]

-- no amount is above the stake
low_volume : (h : ℕ) (xs : List ℕ) → sum (low h xs) ≤ h * length (low h xs)
low_volume h [] = omega arith
low_volume h (x ∷ xs) = elim (cases_lt h x) [
  | inl l ↦ rw (low_none h x xs l) (low_volume h xs)
  | inr l ↦
      let more : h * length (x ∷ low h xs) ≡ h * length (low h xs) + h = mul-suc h (length (low h xs)) in
      rw (low_some h x xs l) (omega (arith, l, low_volume h xs, more, longer x (low h xs)))
]

one_fits : (h : ℕ) (xs : List ℕ) (k : ℕ) → k < length xs → get_or xs k 0 ≤ h
    → sum (low h xs) + (h - get_or xs k 0) ≤ h * length (low h xs)
one_fits h [] k l c = absurd (omega arith)
one_fits h (x ∷ xs) zero l c =
    let more : h * length (x ∷ low h xs) ≡ h * length (low h xs) + h = mul-suc h (length (low h xs)) in
    rw (low_some h x xs c) (omega (arith, c, low_volume h xs, more, longer x (low h xs)))
one_fits h (x ∷ xs) (suc k) l c = elim (cases_lt h x) [
  | inl m ↦ rw (low_none h x xs m) (one_fits h xs k (omega arith) c)
  | inr m ↦
      let more : h * length (x ∷ low h xs) ≡ h * length (low h xs) + h = mul-suc h (length (low h xs)) in
      rw (low_some h x xs m) (omega (arith, m, one_fits h xs k (omega arith) c, more, longer x (low h xs)))
]

pub filled_fits : (stake h a : ℕ) (xs : List ℕ) → IsLevel stake xs h a → stake < 2 ^ 64 → All (λ x. x ≤ h → h - x + min a 1 < 2 ^ 64) xs
filled_fits stake h a xs level fits k d l c =
    let same = get_or_default xs k d 0 l in
    omega (arith, level.volume, one_fits h xs k l (omega (arith, same, c)), same, fits)
