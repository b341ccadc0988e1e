-- Sums over the parts of a list that numbers name, as the edges of each voter or to each target.
use Rattle.std.proofs.Common.{◌≡◌, ℕ, zero, suc, ◌+◌, ◌<◌, ◌≤◌, Bool, true, false, cond, nat_eq, List, [], ◌∷◌, ◌++◌}
use Rattle.std.proofs.Common.{length, take, drop, get_or, filter, sum_by, All, inl, inr, refl, ap, sym, subst, ◌∙◌, arith}
use Rattle.std.specs.List.{IsDistinct, AllByRecursion, range_with_len}
use Rattle.std.proofs.lemmas.List.{take-append-drop}
use Rattle.std.proofs.lemmas.List.Sums.{sum_by-cons, sum_by-append}
use Rattle.std.proofs.lemmas.List.Elements.{filter_more, filter-append, All-head, All-tail}
use Rattle.std.proofs.lemmas.Bool.{cases_Bool, cond-true, cond-false, cases_lt, or_left, or_right, eqb-true, eq-eqb, ne_eqb, cond_both, true≢false}
use Rattle.election_snapshot.specs.Snapshot.{has}

module _ {X : Type 0} (p : X → Bool) (f : X → ℕ) where
  pub sum_filter-cons : (x : X) (xs : List X) → sum_by f (filter p (x ∷ xs)) ≡ cond (p x) (f x) 0 + sum_by f (filter p xs)
  sum_filter-cons x xs = elim (cases_Bool (p x)) [
    | inl t ↦ rw (t) (sum_by-cons f x (filter p xs))
    | inr t ↦ rw (t) (omega arith)
  ]

  pub sum_filter-le : (xs : List X) → sum_by f (filter p xs) ≤ sum_by f xs
  sum_filter-le [] = omega arith
  sum_filter-le (x ∷ xs) = let rest = sum_filter-le xs in
      let part : cond (p x) (f x) 0 ≤ f x = cond_both (p x) (f x) 0 (λ n. n ≤ f x) (λ _. omega arith) (λ _. omega arith) in
      rw (sum_filter-cons x xs, sum_by-cons f x xs) (omega (arith, rest, part))

  single : (x : X) → sum_by f (cond (p x) (x ∷ []) []) ≡ cond (p x) (f x) 0
  single x = elim (cases_Bool (p x)) [
    | inl t ↦ rw (t) (sum_by-cons f x [] ∙ omega arith)
    | inr t ↦ rw (t) refl
  ]

  pub sum_filter_more : (xs : List X) (i : ℕ) (d : X) → i < length xs
      → sum_by f (filter p (take (i + 1) xs)) ≡ sum_by f (filter p (take i xs)) + cond (p (get_or xs i d)) (f (get_or xs i d)) 0
  sum_filter_more xs i d h = ap (sum_by f) (filter_more p xs i d h)
      ∙ sum_by-append f (filter p (take i xs)) (cond (p (get_or xs i d)) (get_or xs i d ∷ []) [])
      ∙ ap (λ n. sum_by f (filter p (take i xs)) + n) (single (get_or xs i d))

  pub sum_filter-take-le : (xs : List X) (i : ℕ) → sum_by f (filter p (take i xs)) ≤ sum_by f (filter p xs)
  sum_filter-take-le xs i = omega (
    arith,
    ap (λ ys. sum_by f (filter p ys)) (sym (take-append-drop i xs)) ∙ ap (sum_by f) (filter-append p (take i xs) (drop i xs))
        ∙ sum_by-append f (filter p (take i xs)) (filter p (drop i xs)),
  )

  pub sum_filter_push : (xs : List X) (x : X) → sum_by f (filter p (xs ++ x ∷ [])) ≡ sum_by f (filter p xs) + cond (p x) (f x) 0
  sum_filter_push xs x = ap (sum_by f) (filter-append p xs (x ∷ []))
      ∙ sum_by-append f (filter p xs) (filter p (x ∷ []))
      ∙ ap (λ n. sum_by f (filter p xs) + n) (sum_filter-cons x [] ∙ omega arith)

pub sum_of_none : {X : Type 0} (xs : List X) → sum_by (λ (_ : X). 0) xs ≡ 0
sum_of_none [] = refl
sum_of_none {X = X} (x ∷ xs) = rw (sum_by-cons (λ (_ : X). 0) x xs) (omega (arith, sum_of_none xs))

pub sum_of_ones : {X : Type 0} (xs : List X) → sum_by (λ (_ : X). 1) xs ≡ length xs
sum_of_ones [] = refl
sum_of_ones (x ∷ xs) = sum_by-cons (λ _. 1) x xs ∙ omega (arith, sum_of_ones xs)

pub sum_of_sums : {X : Type 0} (f g : X → ℕ) (xs : List X) → sum_by (λ x. f x + g x) xs ≡ sum_by f xs + sum_by g xs
sum_of_sums f g [] = refl
sum_of_sums f g (x ∷ xs) = rw (sum_by-cons (λ x. f x + g x) x xs, sum_by-cons f x xs, sum_by-cons g x xs) (omega (arith, sum_of_sums f g xs))

pub sum_same : {X : Type 0} (f g : X → ℕ) → ((x : X) → f x ≡ g x) → (xs : List X) → sum_by f xs ≡ sum_by g xs
sum_same f g e [] = refl
sum_same f g e (x ∷ xs) = rw (sum_by-cons f x xs, sum_by-cons g x xs) (omega (arith, e x, sum_same f g e xs))

-- terms that are larger where the list has them make a larger sum
pub sum_le : {X : Type 0} (f g : X → ℕ) (xs : List X) → All (λ x. f x ≤ g x) xs → sum_by f xs ≤ sum_by g xs
sum_le f g [] h = omega arith
sum_le f g (x ∷ xs) h = rw (sum_by-cons f x xs, sum_by-cons g x xs)
    (omega (arith, All-head (λ x. f x ≤ g x) x xs h, sum_le f g xs (All-tail (λ x. f x ≤ g x) x xs h)))

pub eqb_turned : (a b : ℕ) → nat_eq a b ≡ nat_eq b a
eqb_turned a b = elim (cases_Bool (nat_eq a b)) [
  | inl t ↦ t ∙ sym (eq-eqb b a (sym (eqb-true a b t)))
  | inr t ↦ t ∙ sym (ne_eqb b a (λ e. true≢false (sym (eq-eqb a b (sym e)) ∙ t)))
]

-- a number is told apart from all others of a list
has_not : (number : ℕ) (numbers : List ℕ) → AllByRecursion (λ other. nat_eq number other ≡ false) numbers → has numbers number ≡ false
has_not number [] h = refl
has_not number (other ∷ numbers) h = rw (eqb_turned other number, h.0) (has_not number numbers h.1)

-- the value, once for each time that the number stands in the list
hits : ℕ → ℕ → List ℕ → ℕ
hits number value numbers = sum_by (λ other. cond (nat_eq number other) value 0) numbers

hits-cons : (number value other : ℕ) (numbers : List ℕ) → hits number value (other ∷ numbers) ≡ cond (nat_eq number other) value 0 + hits number value numbers
unfolding hits
hits-cons number value other numbers = sum_by-cons (λ other. cond (nat_eq number other) value 0) other numbers

at_least_one : (number value : ℕ) (numbers : List ℕ) → cond (has numbers number) value 0 ≤ hits number value numbers
at_least_one number value [] = omega arith
at_least_one number value (other ∷ numbers) = elim (cases_Bool (nat_eq number other)) [
  | inl t ↦ rw (hits-cons number value other numbers, eqb_turned other number, t) (omega arith)
  | inr t ↦ rw (hits-cons number value other numbers, eqb_turned other number, t) (omega (arith, at_least_one number value numbers))
]

at_most_one : (number value : ℕ) (numbers : List ℕ) → IsDistinct nat_eq numbers → hits number value numbers ≤ cond (has numbers number) value 0
unfolding IsDistinct hits
at_most_one number value [] h = omega arith
at_most_one number value (other ∷ numbers) h = elim (cases_Bool (nat_eq number other)) [
  | inl t ↦
      let none : has numbers number ≡ false = has_not number numbers (subst (λ k. AllByRecursion (λ n. nat_eq k n ≡ false) numbers) (sym (eqb-true number other t)) h.0) in
      let rest : hits number value numbers ≤ 0 = rw none at (at_most_one number value numbers h.1) in
      rw (hits-cons number value other numbers, eqb_turned other number, t) (omega (arith, rest))
  | inr t ↦ rw (hits-cons number value other numbers, eqb_turned other number, t) (omega (arith, at_most_one number value numbers h.1))
]

-- the items that have one of these numbers as their key
module _ {X : Type 0} (key : X → ℕ) (f : X → ℕ) where
  abbrev pub sum_at : List X → ℕ → ℕ
  sum_at items number = sum_by f (filter (λ item. nat_eq (key item) number) items)

  abbrev pub sum_among : List X → List ℕ → ℕ
  sum_among items numbers = sum_by (λ item. cond (has numbers (key item)) (f item) 0) items

  spread : (item : X) (items : List X) (numbers : List ℕ)
      → sum_by (sum_at (item ∷ items)) numbers ≡ hits (key item) (f item) numbers + sum_by (sum_at items) numbers
  unfolding hits
  spread item items numbers = sum_same (sum_at (item ∷ items)) (λ number. cond (nat_eq (key item) number) (f item) 0 + sum_at items number)
      (λ number. sum_filter-cons (λ item. nat_eq (key item) number) f item items) numbers
      ∙ sum_of_sums (λ number. cond (nat_eq (key item) number) (f item) 0) (sum_at items) numbers

  -- each of them is counted at its number
  pub at_least : (items : List X) (numbers : List ℕ) → sum_among items numbers ≤ sum_by (sum_at items) numbers
  at_least [] numbers = rw (sum_of_none numbers) (omega arith)
  at_least (item ∷ items) numbers = rw (sum_by-cons (λ item. cond (has numbers (key item)) (f item) 0) item items, spread item items numbers)
      (omega (arith, at_least_one (key item) (f item) numbers, at_least items numbers))

  -- and once, where the numbers are distinct
  pub at_most : (items : List X) (numbers : List ℕ) → IsDistinct nat_eq numbers → sum_by (sum_at items) numbers ≤ sum_among items numbers
  at_most [] numbers h = rw (sum_of_none numbers) (omega arith)
  at_most (item ∷ items) numbers h = rw (sum_by-cons (λ item. cond (has numbers (key item)) (f item) 0) item items, spread item items numbers)
      (omega (arith, at_most_one (key item) (f item) numbers h, at_most items numbers h))

  pub among_le : (items : List X) (numbers : List ℕ) → sum_among items numbers ≤ sum_by f items
  among_le items numbers = sum_le (λ item. cond (has numbers (key item)) (f item) 0) f items
      (λ k d _. cond_both (has numbers (key (get_or items k d))) (f (get_or items k d)) 0 (λ n. n ≤ f (get_or items k d)) (λ _. omega arith) (λ _. omega arith))

  -- they are the whole list, where each item's key is one of the numbers
  pub among_all : (items : List X) (numbers : List ℕ) → All (λ item. has numbers (key item) ≡ true) items
      → sum_among items numbers ≡ sum_by f items
  among_all [] numbers all = refl
  among_all (item ∷ items) numbers all = omega (
    arith,
    sum_by-cons (λ item. cond (has numbers (key item)) (f item) 0) item items,
    sum_by-cons f item items,
    cond-true (has numbers (key item)) (f item) 0 (All-head (λ item. has numbers (key item) ≡ true) item items all),
    among_all items numbers (All-tail (λ item. has numbers (key item) ≡ true) item items all),
  )

  pub parts_all : (items : List X) (numbers : List ℕ) → IsDistinct nat_eq numbers
      → All (λ item. has numbers (key item) ≡ true) items → sum_by (sum_at items) numbers ≡ sum_by f items
  parts_all items numbers distinct all =
      omega (arith, at_least items numbers, at_most items numbers distinct, among_all items numbers all)

  -- the parts of distinct numbers are within the whole
  pub parts_le : (items : List X) (numbers : List ℕ) → IsDistinct nat_eq numbers → sum_by (sum_at items) numbers ≤ sum_by f items
  parts_le items numbers h = omega (arith, at_most items numbers h, among_le items numbers)

pub has_range : (low count number : ℕ) → low ≤ number → number < low + count → has (range_with_len low count) number ≡ true
has_range low zero number p q = absurd (omega arith)
has_range low (suc count) number p q = elim (cases_lt low number) [
  | inl l ↦ or_right (nat_eq low number) (has (range_with_len (low + 1) count) number) (has_range (low + 1) count number (omega arith) (omega arith))
  | inr l ↦ or_left (nat_eq low number) (has (range_with_len (low + 1) count) number) (eq-eqb low number (omega arith))
]

-- a number that stands in a list adds to the sum
pub has-le-sum : (f : ℕ → ℕ) (numbers : List ℕ) (number : ℕ) → has numbers number ≡ true → f number ≤ sum_at (λ n. n) f numbers number
has-le-sum f [] number h = absurd (true≢false (sym h))
has-le-sum f (other ∷ numbers) number h = elim (cases_Bool (nat_eq other number)) [
  | inl t ↦ rw (sum_filter-cons (λ n. nat_eq n number) f other numbers, cond-true (nat_eq other number) (f other) 0 t, eqb-true other number t) (omega arith)
  | inr t ↦ rw (sum_filter-cons (λ n. nat_eq n number) f other numbers, cond-false (nat_eq other number) (f other) 0 t)
      (omega (arith, has-le-sum f numbers number (rw t at h)))
]

-- distinct numbers that all stand in a list sum to no more than it
pub sum_covered : (f : ℕ → ℕ) (numbers others : List ℕ) → IsDistinct nat_eq numbers → All (λ number. has others number ≡ true) numbers → sum_by f numbers ≤ sum_by f others
sum_covered f numbers others distinct all = omega (
  arith,
  sum_le f (sum_at (λ n. n) f others) numbers (λ k d h. has-le-sum f others (get_or numbers k d) (all k d h)),
  parts_le (λ n. n) f others numbers distinct,
)
