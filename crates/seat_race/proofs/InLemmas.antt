-- What stands in lists that are made from others.
use Rattle.std.proofs.Common.{◌≡◌, ℕ, zero, suc, ◌+◌, ◌<◌, ◌≤◌, ◌⊎◌, Bool, true, nat_eq, List, [], ◌∷◌, ◌++◌, length, get_or}
use Rattle.std.proofs.Common.{map, filter, sum_by, All, Contains, IsPermutation, inl, inr, refl, ap, ap₂, sym, subst, ◌∙◌, arith}
use Rattle.std.specs.List.{flat_map, range_with_len}
use Rattle.std.proofs.lemmas.Bool.{cases_Bool, cases_lt, cond_both, or_cases, or_left, or_right, eqb-true, eq-eqb, true≢false}
use Rattle.std.proofs.lemmas.List.Sorted.{Contains-permutation}
use Rattle.std.proofs.lemmas.List.Sums.{sum_by-cons}
use Rattle.election_snapshot.specs.Snapshot.{has}

-- the item stands in the list
abbrev pub In : {X : Type 0} → List X → X → Type 0
In [] x = ⊥
In (y ∷ ys) x = (y ≡ x) ⊎ In ys x

pub in_left : {X : Type 0} (xs ys : List X) (x : X) → In xs x → In (xs ++ ys) x
in_left [] ys x h = absurd h
in_left (y ∷ xs) ys x (inl e) = inl e
in_left (y ∷ xs) ys x (inr h) = inr (in_left xs ys x h)

pub in_right : {X : Type 0} (xs ys : List X) (x : X) → In ys x → In (xs ++ ys) x
in_right [] ys x h = h
in_right (y ∷ xs) ys x h = inr (in_right xs ys x h)

pub in_either : {X : Type 0} (xs ys : List X) (x : X) → In (xs ++ ys) x → In xs x ⊎ In ys x
in_either [] ys x h = inr h
in_either (y ∷ xs) ys x (inl e) = inl (inl e)
in_either (y ∷ xs) ys x (inr h) = elim (in_either xs ys x h) [
  | inl l ↦ inl (inr l)
  | inr r ↦ inr r
]

pub in_filter : {X : Type 0} (p : X → Bool) (xs : List X) (x : X) → In xs x → p x ≡ true → In (filter p xs) x
in_filter p [] x h t = absurd h
in_filter p (y ∷ xs) x (inl e) t = rw (ap p e ∙ t) (inl e)
in_filter p (y ∷ xs) x (inr h) t = cond_both (p y) (y ∷ filter p xs) (filter p xs) (λ zs. In zs x) (λ _. inr (in_filter p xs x h t)) (λ _. in_filter p xs x h t)

pub from_filter : {X : Type 0} (p : X → Bool) (xs : List X) (x : X) → In (filter p xs) x → In xs x × (p x ≡ true)
from_filter p [] x h = absurd h
from_filter p (y ∷ xs) x h = elim (cases_Bool (p y)) [
  | inl t ↦ kept t (λ k. from_filter p xs x k) (rw t at h)
  | inr f ↦ let rest = from_filter p xs x (rw f at h) in (inr rest.0, rest.1)
] where
  kept : p y ≡ true → (In (filter p xs) x → In xs x × (p x ≡ true)) → (y ≡ x) ⊎ In (filter p xs) x → ((y ≡ x) ⊎ In xs x) × (p x ≡ true)
  kept t more (inl e) = (inl e, sym (ap p e) ∙ t)
  kept t more (inr k) = let rest = more k in (inr rest.0, rest.1)

pub in_map : {X Y : Type 0} (f : X → Y) (xs : List X) (x : X) → In xs x → In (map f xs) (f x)
in_map f [] x h = absurd h
in_map f (y ∷ xs) x (inl e) = inl (ap f e)
in_map f (y ∷ xs) x (inr h) = inr (in_map f xs x h)

pub from_map : {X Y : Type 0} (f : X → Y) (xs : List X) (y : Y) → In (map f xs) y → (x : X) × In xs x × (f x ≡ y)
from_map f [] y h = absurd h
from_map f (x ∷ xs) y (inl e) = (x, inl refl, e)
from_map f (x ∷ xs) y (inr h) = let rest = from_map f xs y h in (rest.0, inr rest.1, rest.2)

pub in_flat_map : {X Y : Type 0} (f : X → List Y) (xs : List X) (x : X) (y : Y) → In xs x → In (f x) y → In (flat_map f xs) y
in_flat_map f [] x y h k = absurd h
in_flat_map f (z ∷ xs) x y (inl e) k = in_left (f z) (flat_map f xs) y (rw e k)
in_flat_map f (z ∷ xs) x y (inr h) k = in_right (f z) (flat_map f xs) y (in_flat_map f xs x y h k)

pub from_flat_map : {X Y : Type 0} (f : X → List Y) (xs : List X) (y : Y) → In (flat_map f xs) y → (x : X) × In xs x × In (f x) y
from_flat_map f [] y h = absurd h
from_flat_map f (x ∷ xs) y h = elim (in_either (f x) (flat_map f xs) y h) [
  | inl l ↦ (x, inl refl, l)
  | inr r ↦ let rest = from_flat_map f xs y r in (rest.0, inr rest.1, rest.2)
]

pub in_range : (low count n : ℕ) → low ≤ n → n < low + count → In (range_with_len low count) n
in_range low zero n p q = absurd (omega arith)
in_range low (suc count) n p q = elim (cases_lt low n) [
  | inl l ↦ inr (in_range (low + 1) count n (omega arith) (omega arith))
  | inr l ↦ inl (omega arith)
]

pub from_range : (low count n : ℕ) → In (range_with_len low count) n → (low ≤ n) × (n < low + count)
from_range low zero n h = absurd h
from_range low (suc count) n (inl e) = (omega (arith, e), omega (arith, e))
from_range low (suc count) n (inr h) = let rest = from_range (low + 1) count n h in (omega (arith, rest.0), omega (arith, rest.1))

pub in_has : (numbers : List ℕ) (n : ℕ) → In numbers n → has numbers n ≡ true
in_has [] n h = absurd h
in_has (m ∷ numbers) n (inl e) = or_left (nat_eq m n) (has numbers n) (eq-eqb m n e)
in_has (m ∷ numbers) n (inr h) = or_right (nat_eq m n) (has numbers n) (in_has numbers n h)

pub from_has : (numbers : List ℕ) (n : ℕ) → has numbers n ≡ true → In numbers n
from_has [] n h = absurd (true≢false (sym h))
from_has (m ∷ numbers) n h = elim (or_cases (nat_eq m n) (has numbers n) h) [
  | inl e ↦ inl (eqb-true m n e)
  | inr e ↦ inr (from_has numbers n e)
]

pub in_contains : {X : Type 0} (xs : List X) (x : X) → In xs x → Contains xs x
in_contains [] x h = absurd h
in_contains (y ∷ xs) x (inl e) = (zero, omega arith, e)
in_contains (y ∷ xs) x (inr h) = let rest = in_contains xs x h in (suc rest.0, omega (arith, rest.1), rest.2)

pub from_contains : {X : Type 0} (xs : List X) (x : X) → Contains xs x → In xs x
from_contains [] x (k, l, e) = absurd (omega (arith, l))
from_contains (y ∷ xs) x (zero, l, e) = inl e
from_contains (y ∷ xs) x (suc k, l, e) = inr (from_contains xs x (k, omega (arith, l), e))

pub in_permuted : {X : Type 0} (xs ys : List X) (x : X) → IsPermutation xs ys → In xs x → In ys x
in_permuted xs ys x moved h = from_contains ys x (Contains-permutation xs ys x moved (in_contains xs x h))

pub in_at : {X : Type 0} (xs : List X) (k : ℕ) (d : X) → k < length xs → In xs (get_or xs k d)
in_at [] k d h = absurd (omega (arith, h))
in_at (x ∷ xs) zero d h = inl refl
in_at (x ∷ xs) (suc k) d h = inr (in_at xs k d (omega (arith, h)))

pub all_in : {X : Type 0} (P : X → Type 0) (xs : List X) → ((x : X) → In xs x → P x) → All P xs
all_in P xs h = λ k d l. h (get_or xs k d) (in_at xs k d l)

-- terms that are equal where the list has them make equal sums
pub sum_agree : {X : Type 0} (f g : X → ℕ) (xs : List X) → ((x : X) → In xs x → f x ≡ g x) → sum_by f xs ≡ sum_by g xs
sum_agree f g [] h = refl
sum_agree f g (x ∷ xs) h = rw (sum_by-cons f x xs, sum_by-cons g x xs) (ap₂ (λ a b. a + b) (h x (inl refl)) (sum_agree f g xs (λ y i. h y (inr i))))

pub term_le : {X : Type 0} (f : X → ℕ) (xs : List X) (x : X) → In xs x → f x ≤ sum_by f xs
term_le f [] x h = absurd h
term_le f (y ∷ xs) x (inl e) = rw (sum_by-cons f y xs) (omega (arith, ap f e))
term_le f (y ∷ xs) x (inr h) = rw (sum_by-cons f y xs) (omega (arith, term_le f xs x h))

pub all_at : {X : Type 0} (P : X → Type 0) (xs : List X) → All P xs → (x : X) → In xs x → P x
all_at P xs all x h = let place = in_contains xs x h in subst P place.2 (all place.0 x place.1)
