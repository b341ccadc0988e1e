-- The members of a committee in rising order.
use Rattle.std.proofs.Common.{◌≡◌, ◌↔◌, ℕ, zero, suc, ◌+◌, ◌<◌, ◌≤◌, Bool, true, false, cond, nat_eq, ◌||◌, All, List, [], ◌∷◌, ◌++◌}
use Rattle.std.proofs.Common.{filter, map, take, get_or, slice_get, Some, length, refl, sym, ◌∙◌, ap, ap₂, arith, IsPermutation}
use Rattle.std.specs.List.{range_with_len, AllPairs}
use Rattle.std.specs.List.Sorted.{IsStrictlyIncreasing}
use Rattle.std.proofs.lemmas.Bool.Decides.{nat_tests}
use Rattle.std.proofs.lemmas.List.Kept.{AllPairs-from_increasing}
use Rattle.std.proofs.lemmas.List.Elements.{All-cons, All-head, All-tail}
use Rattle.election_snapshot.specs.Snapshot.{Snapshot, has}
use Rattle.weight_book.specs.Weights.{Weights}
use Rattle.weight_book.proofs.OrderLemmas.{has_permutation}
use Rattle.round_decision.specs.Decision.{rising}

-- each number is below those behind it
abbrev AreRising : List ℕ → Type 0
AreRising [] = Unit {0}
AreRising (x ∷ xs) = All (λ y. x < y) xs × AreRising xs

rising_by : (xs : List ℕ) → IsStrictlyIncreasing xs → AreRising xs
rising_by xs h = from xs (AllPairs-from_increasing xs h) where
  from : (ys : List ℕ) → AllPairs (λ x y. x < y) ys → AreRising ys
  from [] pairs = tt
  from (y ∷ ys) pairs = (λ k d within. pairs 0 (suc k) d (omega arith) (omega (arith, within)), from ys (λ i j d below within. pairs (suc i) (suc j) d (omega (arith, below)) (omega (arith, within))))

has_none : (xs : List ℕ) (q : ℕ) → All (λ x. q < x) xs → has xs q ≡ false
has_none [] q above = refl
has_none (x ∷ xs) q above =
    let less : q < x = All-head (λ y. q < y) x xs above in
    let apart : nat_eq x q ≡ false = grind (arith, nat_tests) in
    rw apart (has_none xs q (All-tail (λ y. q < y) x xs above))

filter_none : (xs : List ℕ) → filter (has []) xs ≡ []
filter_none [] = refl
filter_none (x ∷ xs) = filter_none xs

-- a number below the range is no matter to it
without_first : (x low n : ℕ) (xs : List ℕ) → x < low → filter (has (x ∷ xs)) (range_with_len low n) ≡ filter (has xs) (range_with_len low n)
without_first x low zero xs below = refl
without_first x low (suc n) xs below =
    let apart : nat_eq x low ≡ false = grind (arith, nat_tests) in
    ap₂ (λ (b : Bool) (zs : List ℕ). cond b (low ∷ zs) zs)
    (ap (λ b. b || has xs low) apart) (without_first x (low + 1) n xs (omega (arith, below)))

above : (low x : ℕ) → low ≤ x → nat_eq x low ≡ false → low < x
above low x from apart = grind (arith, nat_tests)

equal : (low x : ℕ) → nat_eq x low ≡ true → x ≡ low
equal low x same = grind (arith, nat_tests)

-- the numbers of a range that stand in a rising list are that list
listed : (low n : ℕ) (xs : List ℕ) → AreRising xs → All (λ x. low ≤ x) xs → All (λ x. x < low + n) xs → filter (has xs) (range_with_len low n) ≡ xs
listed low n [] up from to = filter_none (range_with_len low n)
listed low zero (x ∷ xs) up from to =
    absurd (omega (arith, All-head (λ y. low ≤ y) x xs from, All-head (λ y. y < low + 0) x xs to))
listed low (suc n) (x ∷ xs) up from to =
    at (nat_eq x low) refl (listed (low + 1) n xs) (listed (low + 1) n (x ∷ xs)) (All-head (λ y. low ≤ y) x xs from) where
      at : (b : Bool) → nat_eq x low ≡ b
          → (AreRising xs → All (λ y. low + 1 ≤ y) xs → All (λ y. y < low + 1 + n) xs → filter (has xs) (range_with_len (low + 1) n) ≡ xs)
          → (AreRising (x ∷ xs) → All (λ y. low + 1 ≤ y) (x ∷ xs) → All (λ y. y < low + 1 + n) (x ∷ xs) → filter (has (x ∷ xs)) (range_with_len (low + 1) n) ≡ x ∷ xs)
          → low ≤ x → filter (has (x ∷ xs)) (range_with_len low (suc n)) ≡ x ∷ xs
      at true e rest whole first =
          let same : x ≡ low = equal low x e in
          rw e (ap₂ (λ y ys. y ∷ ys) (sym same)
          (without_first x (low + 1) n xs (omega (arith, same))
          ∙ rest up.1 (λ k d within. omega (arith, up.0 k d within, same)) (λ k d within. omega (arith, All-tail (λ y. y < low + suc n) x xs to k d within))))
      at false e rest whole first =
          let more : low < x = above low x first e in
          let none : has xs low ≡ false = has_none xs low (λ k d within. omega (arith, up.0 k d within, more)) in
          rw (e, none) (whole up
          (All-cons (λ y. low + 1 ≤ y) x xs (omega (arith, more)) (λ k d within. omega (arith, up.0 k d within, more)))
          (λ k d within. omega (arith, to k d within)))

-- the members in rising order
pub in_order : (snapshot : Snapshot) (old new : Weights) → IsPermutation old.committee new.committee → new.edges ≡ old.edges → IsStrictlyIncreasing new.committee
    → All (λ member. member < length snapshot.targets) new.committee → new ≡ rising snapshot old
in_order snapshot old new moved edges up within =
    let same : filter (has old.committee) (range_with_len 0 (length snapshot.targets)) ≡ new.committee =
    (λ i. filter (λ q. sym (has_permutation old.committee new.committee q moved) i) (range_with_len 0 (length snapshot.targets)))
    ∙ listed 0 (length snapshot.targets) new.committee (rising_by new.committee up) (λ k d below. omega arith)
    (λ k d below. omega (arith, within k d below)) in
    λ i. record { committee = sym same i; edges = edges i }

-- ## The members, told one after the other

mapped_suc : {A B : Type 0} (f : A → B) (xs : List A) (i : ℕ) (d : A) → i < length xs → map f (take i xs) ++ f (get_or xs i d) ∷ [] ≡ map f (take (suc i) xs)
mapped_suc f [] i d below = absurd (omega (arith, below))
mapped_suc f (x ∷ xs) zero d below = refl
mapped_suc f (x ∷ xs) (suc i) d below = ap (λ zs. f x ∷ zs) (mapped_suc f xs i d (omega (arith, below)))

pub member_next : {A B : Type 0} (f : A → B) (xs : List A) (i : ℕ) (d : A) → i < length xs → map f (take i xs) ++ f (get_or xs i d) ∷ [] ≡ map f (take (i + 1) xs)
member_next f xs i d below = let one : suc i ≡ i + 1 = omega arith in mapped_suc f xs i d below ∙ ap (λ n. map f (take n xs)) one

pub stands_at : {A : Type 0} (xs : List A) (i : ℕ) (x d : A) → slice_get xs i ≡ Some x → get_or xs i d ≡ x
stands_at [] i x d e = absurd (cc)
stands_at (y ∷ ys) zero x d e = cc
stands_at (y ∷ ys) (suc i) x d e = stands_at ys i x d e

-- from what is the same as another thing to that other
pub back : {A B : Type 0} → A ↔ B → B → A
back (to, from) = from
