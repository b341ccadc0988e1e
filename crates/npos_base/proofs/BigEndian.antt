-- Numbers as bytes, the highest first: reading what was written gives the number back, and the other way round.
use Rattle.std.proofs.Common.{◌≡◌, ℕ, zero, suc, ◌+◌, ◌-◌, ◌*◌, ◌/◌, ◌%◌, ◌^◌, ◌<◌, ◌≤◌, List, [], ◌∷◌, ◌++◌, length, refl, sym, ◌∙◌, ap, ap₂, subst, add_assoc, arith}
use Rattle.std.proofs.Math.Nat.{div-one, mod-one, mod-lt, mul-le-mul_right, pow-suc, mod-eq_of_lt}
use Rattle.std.proofs.Math.Arith.{mod-mul}
use Rattle.std.proofs.Math.Nat.{pow-succ'}
use Rattle.std.proofs.lemmas.Nat.{mod-mul-add, div-mul-add}
use Rattle.std.specs.Ordering.{nat_cmp, ordering_then, MatchOrdering}
use Rattle.std.specs.declared.cmp.Ordering.{Ordering}
use Rattle.std.specs.declared.cmp.Ordering.TheVariants.{Less, Equal, Greater}
use Rattle.std.specs.Cmp.{ranked, nat_cmp_is}
use Rattle.std.specs.Cmp.Lexicographic.{slice_cmp}
use Rattle.std.specs.Int.{w128, from_be_bytes, to_be_bytes, byte_at, byte_worth, bytes_high_first, sum_through}
use Rattle.std.proofs.Math.Nat.{sub-zero, suc-sub-suc}
use Rattle.std.specs.List.{slice_index}

-- each is a byte
abbrev pub AreBytes : List ℕ → Type 0
AreBytes [] = Unit {0}
AreBytes (b ∷ bs) = (b < 256) × AreBytes bs

-- the number that bytes spell, the highest first
pub value_of_bytes : List ℕ → ℕ
value_of_bytes [] = 0
value_of_bytes (b ∷ bs) = b * 256 ^ length bs + value_of_bytes bs

digit : (k n : ℕ) → byte_at k n ≡ n / 256 ^ k % 256
digit zero n = sym (ap (λ x. x % 256) (div-one n))
digit (suc k) n = refl

pub pos_pow : (k : ℕ) → 0 < 256 ^ k
pos_pow zero = omega arith
pos_pow (suc k) = let h = pos_pow k in rw pow-suc (omega arith)

pub length_high_first : (k n : ℕ) → length (bytes_high_first k n) ≡ k
length_high_first zero n = refl
length_high_first (suc k) n = ap suc (length_high_first k n)

pub value_high_first : (k n : ℕ) → value_of_bytes (bytes_high_first k n) ≡ n % 256 ^ k
unfolding value_of_bytes
value_high_first zero n = sym (mod-one n)
value_high_first (suc k) n =
    ap₂ (λ b v. b * 256 ^ length (bytes_high_first k n) + v) (digit k n) (value_high_first k n)
    ∙ ap (λ l. n / 256 ^ k % 256 * 256 ^ l + n % 256 ^ k) (length_high_first k n)
    ∙ sym (ap (λ x. n % x) (pow-succ' 256 k) ∙ mod-mul n (omega arith) (pos_pow k))

-- bytes spell a number below the power that their count gives
pub value_below : (bs : List ℕ) → AreBytes bs → value_of_bytes bs < 256 ^ length bs
unfolding value_of_bytes
value_below [] h = omega arith
value_below (b ∷ bs) h =
    let low = value_below bs h.1 in
    let high : (b + 1) * 256 ^ length bs ≤ 256 * 256 ^ length bs = mul-le-mul_right (256 ^ length bs) (omega (arith, h.0)) in
    rw pow-suc (omega (arith, high, low))

are_bytes_high_first : (k n : ℕ) → AreBytes (bytes_high_first k n)
are_bytes_high_first zero n = tt
are_bytes_high_first (suc k) n = (rw digit (mod-lt (n / 256 ^ k) (omega arith)), are_bytes_high_first k n)

-- bytes of one count that spell one number are the same
same_value : (bs cs : List ℕ) → length bs ≡ length cs → AreBytes bs → AreBytes cs → value_of_bytes bs ≡ value_of_bytes cs → bs ≡ cs
unfolding value_of_bytes
same_value [] [] l p q e = refl
same_value [] (c ∷ cs) l p q e = absurd (omega (arith, l))
same_value (b ∷ bs) [] l p q e = absurd (omega (arith, l))
same_value (b ∷ bs) (c ∷ cs) l p q e =
    let lengths : length bs ≡ length cs = omega (arith, l) in
    let low = value_below bs p.1 in
    let other : value_of_bytes cs < 256 ^ length bs = subst (λ k. value_of_bytes cs < 256 ^ k) (sym lengths) (value_below cs q.1) in
    let both : b * 256 ^ length bs + value_of_bytes bs ≡ c * 256 ^ length bs + value_of_bytes cs =
    e ∙ ap (λ k. c * 256 ^ k + value_of_bytes cs) (sym lengths) in
    let first : b ≡ c = sym (div-mul-add b (256 ^ length bs) (value_of_bytes bs) low) ∙ ap (λ n. n / 256 ^ length bs) both ∙ div-mul-add c (256 ^ length bs) (value_of_bytes cs) other in
    let rest : value_of_bytes bs ≡ value_of_bytes cs = sym (mod-mul-add b (256 ^ length bs) (value_of_bytes bs) low)
    ∙ ap (λ n. n % 256 ^ length bs) both ∙ mod-mul-add c (256 ^ length bs) (value_of_bytes cs) other in
    ap₂ (λ x xs. x ∷ xs) first (same_value bs cs lengths p.1 q.1 rest)

pub high_first_value : (bs : List ℕ) → AreBytes bs → bytes_high_first (length bs) (value_of_bytes bs) ≡ bs
high_first_value bs h =
    same_value _ bs (length_high_first (length bs) (value_of_bytes bs)) (are_bytes_high_first _ _) h
    (value_high_first (length bs) (value_of_bytes bs) ∙ mod-eq_of_lt (value_below bs h))

-- a sum from its first term on
sum_from_first : (f : ℕ → ℕ) (k : ℕ) → sum_through f (suc k) ≡ f 0 + sum_through (λ i. f (suc i)) k
sum_from_first f zero = refl
sum_from_first f (suc k) = ap (λ x. x + f (suc (suc k))) (sum_from_first f k) ∙ add_assoc (f 0) _ _

same_sum : (f g : ℕ → ℕ) (k : ℕ) → ((i : ℕ) → f i ≡ g i) → sum_through f k ≡ sum_through g k
same_sum f g zero e = e 0
same_sum f g (suc k) e = ap₂ (λ x y. x + y) (same_sum f g k e) (e (suc k))

worth : (k b : ℕ) → byte_worth k b ≡ b * 256 ^ k
worth zero b = omega arith
worth (suc k) b = refl

sum_of_worths : (b : ℕ) (bs : List ℕ) → sum_through (λ i. byte_worth (length bs - i) (slice_index (b ∷ bs) i)) (length bs) ≡ value_of_bytes (b ∷ bs)
unfolding value_of_bytes
sum_of_worths b [] = omega arith
sum_of_worths b (c ∷ cs) =
    sum_from_first (λ i. byte_worth (suc (length cs) - i) (slice_index (b ∷ c ∷ cs) i)) (length cs)
    ∙ ap₂ (λ x y. x + y)
    (ap (λ k. byte_worth k b) (sub-zero (suc (length cs))) ∙ worth (suc (length cs)) b)
    (same_sum _ (λ i. byte_worth (length cs - i) (slice_index (c ∷ cs) i)) (length cs)
    (λ i. ap (λ k. byte_worth k (slice_index (c ∷ cs) i)) (suc-sub-suc (length cs) i))
    ∙ sum_of_worths c cs)

-- the number that sixteen bytes spell
pub from_sixteen : (bs : List ℕ) → length bs ≡ 16 → from_be_bytes w128 bs ≡ value_of_bytes bs
from_sixteen [] l = absurd (omega (arith, l))
from_sixteen (b ∷ bs) l =
    let rest : length bs ≡ 15 = omega (arith, l) in
    subst (λ k. sum_through (λ i. byte_worth (k - i) (slice_index (b ∷ bs) i)) k ≡ value_of_bytes (b ∷ bs)) rest (sum_of_worths b bs)

pub sixteen_bytes_kept : (bs : List ℕ) → length bs ≡ 16 → AreBytes bs → to_be_bytes w128 (from_be_bytes w128 bs) ≡ bs
sixteen_bytes_kept bs l h =
    ap (λ n. bytes_high_first 16 n) (from_sixteen bs l)
    ∙ subst (λ k. bytes_high_first k (value_of_bytes bs) ≡ bs) l (high_first_value bs h)

pub number_kept : (n : ℕ) → n < 2 ^ 128 → from_be_bytes w128 (to_be_bytes w128 n) ≡ n
number_kept n h = from_sixteen (bytes_high_first 16 n) (length_high_first 16 n) ∙ value_high_first 16 n ∙ mod-eq_of_lt h

-- adding one number to both sides keeps their order
shifted : (n x y : ℕ) → nat_cmp x y ≡ nat_cmp (n + x) (n + y)
shifted n x y = nat_cmp_is (n + x) (n + y) (nat_cmp x y) (moved (nat_cmp x y) refl) where
  moved : (r : Ordering) → r ≡ nat_cmp x y → MatchOrdering r (n + x < n + y) (n + x ≡ n + y) (n + y < n + x)
  moved Less e = let h : x < y = ranked x y Less e in omega arith
  moved Equal e = let h : x ≡ y = ranked x y Equal e in omega arith
  moved Greater e = let h : y < x = ranked x y Greater e in omega arith

-- two digits before two numbers below a base decide first
digits_order : (b c v w base : ℕ) → v < base → w < base → ordering_then (nat_cmp b c) (nat_cmp v w) ≡ nat_cmp (b * base + v) (c * base + w)
digits_order b c v w base p q = by_rank (nat_cmp b c) refl where
  by_rank : (r : Ordering) → r ≡ nat_cmp b c → ordering_then r (nat_cmp v w) ≡ nat_cmp (b * base + v) (c * base + w)
  by_rank Less e =
      let below : b < c = ranked b c Less e in
      let step : (b + 1) * base ≤ c * base = mul-le-mul_right base (omega (arith, below)) in
      nat_cmp_is (b * base + v) (c * base + w) Less (omega (arith, step, p))
  by_rank Equal e =
      let same : b ≡ c = ranked b c Equal e in
      subst (λ d. nat_cmp v w ≡ nat_cmp (b * base + v) (d * base + w)) same (shifted (b * base) v w)
  by_rank Greater e =
      let below : c < b = ranked b c Greater e in
      let step : (c + 1) * base ≤ b * base = mul-le-mul_right base (omega (arith, below)) in
      nat_cmp_is (b * base + v) (c * base + w) Greater (omega (arith, step, q))

-- bytes of one count are in the order of the numbers that they spell
pub bytes_order : (bs cs : List ℕ) → length bs ≡ length cs → AreBytes bs → AreBytes cs → slice_cmp nat_cmp bs cs ≡ nat_cmp (value_of_bytes bs) (value_of_bytes cs)
unfolding value_of_bytes
bytes_order [] [] l p q = refl
bytes_order [] (c ∷ cs) l p q = absurd (omega (arith, l))
bytes_order (b ∷ bs) [] l p q = absurd (omega (arith, l))
bytes_order (b ∷ bs) (c ∷ cs) l p q =
    let lengths : length bs ≡ length cs = omega (arith, l) in
    ap (ordering_then (nat_cmp b c)) (bytes_order bs cs lengths p.1 q.1)
    ∙ digits_order b c (value_of_bytes bs) (value_of_bytes cs) (256 ^ length bs) (value_below bs p.1)
    (subst (λ k. value_of_bytes cs < 256 ^ k) (sym lengths) (value_below cs q.1))
    ∙ ap (λ k. nat_cmp (b * 256 ^ length bs + value_of_bytes bs) (c * 256 ^ k + value_of_bytes cs)) lengths

-- two numbers are in the order of their sixteen bytes
pub sixteen_order : (n m : ℕ) → n < 2 ^ 128 → m < 2 ^ 128 → slice_cmp nat_cmp (bytes_high_first 16 n) (bytes_high_first 16 m) ≡ nat_cmp n m
sixteen_order n m p q =
    bytes_order (bytes_high_first 16 n) (bytes_high_first 16 m) refl (are_bytes_high_first 16 n) (are_bytes_high_first 16 m)
    ∙ ap₂ nat_cmp (value_high_first 16 n ∙ mod-eq_of_lt p) (value_high_first 16 m ∙ mod-eq_of_lt q)

-- fronts of one count decide first
pub fronts_order : (xs ys us vs : List ℕ) → length xs ≡ length ys → slice_cmp nat_cmp (xs ++ us) (ys ++ vs) ≡ ordering_then (slice_cmp nat_cmp xs ys) (slice_cmp nat_cmp us vs)
fronts_order [] [] us vs l = refl
fronts_order [] (y ∷ ys) us vs l = absurd (omega (arith, l))
fronts_order (x ∷ xs) [] us vs l = absurd (omega (arith, l))
fronts_order (x ∷ xs) (y ∷ ys) us vs l =
    ap (ordering_then (nat_cmp x y)) (fronts_order xs ys us vs (omega (arith, l)))
    ∙ then_again (nat_cmp x y) (slice_cmp nat_cmp xs ys) (slice_cmp nat_cmp us vs) where
      then_again : (a b c : Ordering) → ordering_then a (ordering_then b c) ≡ ordering_then (ordering_then a b) c
      then_again Less b c = refl
      then_again Equal b c = refl
      then_again Greater b c = refl
