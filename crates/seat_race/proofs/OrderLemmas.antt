-- Lists that rise strictly by a key: two with the same items are the same list.
use Rattle.std.proofs.Common.{◌≡◌, ℕ, zero, suc, ◌+◌, ◌<◌, ◌≤◌, ◌⊎◌, ◌≢◌, Bool, false, nat_eq, List, [], ◌∷◌, ◌++◌, get_or, map, filter, inl, inr, refl, ap, ap₂, sym, ◌∙◌, arith}
use Rattle.std.specs.List.{flat_map, range_with_len, IsDistinct, AllByRecursion}
use Rattle.std.specs.List.Sorted.{IsNonDecreasingBy}
use Rattle.std.proofs.lemmas.Bool.{cond_both, eq-eqb, ne_eqb, true≢false}
use Rattle.seat_race.proofs.InLemmas.{In, in_either, from_filter, from_map, from_flat_map, from_range, in_contains}

abbrev pub RisingNumbers : List ℕ → Type 0
RisingNumbers [] = Unit {0}
RisingNumbers (n ∷ numbers) = ((m : ℕ) → In numbers m → n < m) × RisingNumbers numbers

pub rising_filter : (p : ℕ → Bool) (numbers : List ℕ) → RisingNumbers numbers → RisingNumbers (filter p numbers)
rising_filter p [] r = tt
rising_filter p (n ∷ numbers) r = cond_both (p n) (n ∷ filter p numbers) (filter p numbers) RisingNumbers
    (λ _. (λ m k. r.0 m (from_filter p numbers m k).0, rising_filter p numbers r.1)) (λ _. rising_filter p numbers r.1)

pub rising_range : (low count : ℕ) → RisingNumbers (range_with_len low count)
rising_range low zero = tt
rising_range low (suc count) = (λ n h. omega (arith, (from_range (low + 1) count n h).0), rising_range (low + 1) count)

module _ {X : Type 0} (key : X → ℕ) where
  abbrev pub Rises : List X → Type 0
  Rises [] = Unit {0}
  Rises (x ∷ xs) = ((y : X) → In xs y → key x < key y) × Rises xs

  pub same_list : (xs ys : List X) → Rises xs → Rises ys → ((x : X) → In xs x → In ys x) → ((x : X) → In ys x → In xs x) → xs ≡ ys
  same_list [] [] r s f g = refl
  same_list [] (y ∷ ys) r s f g = absurd (g y (inl refl))
  same_list (x ∷ xs) [] r s f g = absurd (f x (inl refl))
  same_list (x ∷ xs) (y ∷ ys) r s f g = ap₂ (λ z zs. z ∷ zs) heads (same_list xs ys r.1 s.1 (λ z h. to z h (f z (inr h))) (λ z h. back z h (g z (inr h)))) where
    first : (y ≡ x) ⊎ In ys x → (x ≡ y) ⊎ In xs y → x ≡ y
    first (inl e) k = sym e
    first (inr h) (inl e) = e
    first (inr h) (inr k) = absurd (omega (arith, s.0 x h, r.0 y k))

    heads : x ≡ y
    heads = first (f x (inl refl)) (g y (inl refl))

    to : (z : X) → In xs z → (y ≡ z) ⊎ In ys z → In ys z
    to z h (inl e) = absurd (omega (arith, r.0 z h, ap key (heads ∙ e)))
    to z h (inr k) = k

    back : (z : X) → In ys z → (x ≡ z) ⊎ In xs z → In xs z
    back z h (inl e) = absurd (omega (arith, s.0 z h, ap key (sym heads ∙ e)))
    back z h (inr k) = k

  pub rises-append : (xs ys : List X) → Rises xs → Rises ys → ((x y : X) → In xs x → In ys y → key x < key y) → Rises (xs ++ ys)
  rises-append [] ys r s h = s
  rises-append (x ∷ xs) ys r s h = (λ y k. at y (in_either xs ys y k), rises-append xs ys r.1 s (λ a b i j. h a b (inr i) j)) where
    at : (y : X) → In xs y ⊎ In ys y → key x < key y
    at y (inl l) = r.0 y l
    at y (inr l) = h x y (inl refl) l

  pub rises-filter : (p : X → Bool) (xs : List X) → Rises xs → Rises (filter p xs)
  rises-filter p [] r = tt
  rises-filter p (x ∷ xs) r = cond_both (p x) (x ∷ filter p xs) (filter p xs) Rises
      (λ _. (λ y k. r.0 y (from_filter p xs y k).0, rises-filter p xs r.1)) (λ _. rises-filter p xs r.1)

  pub rises-map : (f : ℕ → X) → ((a b : ℕ) → a < b → key (f a) < key (f b)) → (low count : ℕ) → Rises (map f (range_with_len low count))
  rises-map f up low zero = tt
  rises-map f up low (suc count) = (λ y h. at y (from_map f (range_with_len (low + 1) count) y h), rises-map f up (low + 1) count) where
    at : (y : X) → (a : ℕ) × In (range_with_len (low + 1) count) a × (f a ≡ y) → key (f low) < key y
    at y (a, i, e) = omega (arith, up low a (omega (arith, (from_range (low + 1) count a i).0)), ap key e)

  pub rises-map_over : (f : ℕ → X) → ((a b : ℕ) → a < b → key (f a) < key (f b)) → (numbers : List ℕ) → RisingNumbers numbers → Rises (map f numbers)
  rises-map_over f up [] r = tt
  rises-map_over f up (n ∷ numbers) r = (λ y h. at y (from_map f numbers y h), rises-map_over f up numbers r.1) where
    at : (y : X) → (a : ℕ) × In numbers a × (f a ≡ y) → key (f n) < key y
    at y (a, i, e) = omega (arith, up n a (r.0 a i), ap key e)

  pub rises-flat_map : (f : ℕ → List X) → ((a : ℕ) → Rises (f a)) → ((a b : ℕ) (x y : X) → a < b → In (f a) x → In (f b) y → key x < key y)
      → (low count : ℕ) → Rises (flat_map f (range_with_len low count))
  rises-flat_map f each up low zero = tt
  rises-flat_map f each up low (suc count) = rises-append (f low) (flat_map f (range_with_len (low + 1) count)) (each low) (rises-flat_map f each up (low + 1) count)
      (λ x y i j. at x y i (from_flat_map f (range_with_len (low + 1) count) y j))
    where
      at : (x y : X) → In (f low) x → (a : ℕ) × In (range_with_len (low + 1) count) a × In (f a) y → key x < key y
      at x y i (a, j, k) = up low a x y (omega (arith, (from_range (low + 1) count a j).0)) i k

  -- the key tells items apart
  abbrev pub same_key : X → X → Bool
  same_key x y = nat_eq (key x) (key y)

  pub rises_sorted : (xs : List X) → IsNonDecreasingBy key xs → IsDistinct same_key xs → Rises xs
  unfolding IsDistinct
  rises_sorted [] up apart = tt
  rises_sorted (x ∷ xs) up apart = (λ y h. at y h, rises_sorted xs (λ i j d l m. up (suc i) (suc j) d (omega (arith, l)) (omega (arith, m))) apart.1) where
    differs : (ys : List X) (y : X) → AllByRecursion (λ z. same_key x z ≡ false) ys → In ys y → key x ≢ key y
    differs [] y all h e = h
    differs (z ∷ ys) y all (inl q) e = true≢false (sym (eq-eqb (key x) (key z) (e ∙ sym (ap key q))) ∙ all.0)
    differs (z ∷ ys) y all (inr h) e = differs ys y all.1 h e

    at : (y : X) → In xs y → key x < key y
    at y h = let place = in_contains xs y h in
        let le : key x ≤ key (get_or xs place.0 y) = up 0 (suc place.0) y (omega arith) (omega (arith, place.1)) in
        apart_below (key x) (key y) (omega (arith, le, ap key place.2)) (differs xs y apart.0 h)
      where
        apart_below : (a b : ℕ) → a ≤ b → (a ≡ b → ⊥) → a < b
        apart_below a b p differ = omega (arith, p, differ)

  pub distinct_cons : (x : X) (xs : List X) → ((y : X) → In xs y → key x ≢ key y) → IsDistinct same_key xs → IsDistinct same_key (x ∷ xs)
  unfolding IsDistinct
  distinct_cons x xs h rest = (all xs h, rest) where
    all : (ys : List X) → ((y : X) → In ys y → key x ≢ key y) → AllByRecursion (λ z. same_key x z ≡ false) ys
    all [] k = tt
    all (y ∷ ys) k = (ne_eqb (key x) (key y) (k y (inl refl)), all ys (λ z i. k z (inr i)))

  pub distinct-nil : IsDistinct same_key []
  unfolding IsDistinct
  distinct-nil = tt

  -- items that rise are told apart by each test that tells keys apart
  pub distinct_by : (same : X → X → Bool) → ((x y : X) → key x < key y → same x y ≡ false) → (xs : List X) → Rises xs → IsDistinct same xs
  unfolding IsDistinct
  distinct_by same h [] r = tt
  distinct_by same h (x ∷ xs) r = (all xs r.0, distinct_by same h xs r.1) where
    all : (ys : List X) → ((y : X) → In ys y → key x < key y) → AllByRecursion (λ z. same x z ≡ false) ys
    all [] k = tt
    all (y ∷ ys) k = (h x y (k y (inl refl)), all ys (λ z i. k z (inr i)))

  pub rises_distinct : (xs : List X) → Rises xs → IsDistinct same_key xs
  rises_distinct xs r = distinct_by same_key (λ x y l. ne_eqb (key x) (key y) (λ e. absurd (omega (arith, l, e)))) xs r

  pub distinct-append : (xs ys : List X) → IsDistinct same_key xs → IsDistinct same_key ys → ((x y : X) → In xs x → In ys y → key x ≢ key y) → IsDistinct same_key (xs ++ ys)
  unfolding IsDistinct
  distinct-append [] ys r s h = s
  distinct-append (x ∷ xs) ys r s h = distinct_cons x (xs ++ ys) (λ y k. at y (in_either xs ys y k)) (distinct-append xs ys r.1 s (λ a b i j. h a b (inr i) j)) where
    differs : (zs : List X) (y : X) → AllByRecursion (λ z. same_key x z ≡ false) zs → In zs y → key x ≢ key y
    differs [] y all k e = k
    differs (z ∷ zs) y all (inl q) e = true≢false (sym (eq-eqb (key x) (key z) (e ∙ sym (ap key q))) ∙ all.0)
    differs (z ∷ zs) y all (inr k) e = differs zs y all.1 k e

    at : (y : X) → In xs y ⊎ In ys y → key x ≢ key y
    at y (inl l) = differs xs y r.0 l
    at y (inr l) = h x y (inl refl) l

pub rises_range : (low count : ℕ) → Rises (λ n. n) (range_with_len low count)
rises_range low zero = tt
rises_range low (suc count) = (λ n h. omega (arith, (from_range (low + 1) count n h).0), rises_range (low + 1) count)
