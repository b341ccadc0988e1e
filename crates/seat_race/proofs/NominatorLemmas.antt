-- The nominators of a target, and sums over them.
use Rattle.std.proofs.Common.{◌≡◌, ℕ, zero, suc, ◌+◌, ◌*◌, ◌<◌, ◌≤◌, ◌⊎◌, Bool, true, false, cond, nat_eq, List, [], ◌∷◌, ◌++◌, length, get_or, filter, sum_by, inl, inr, refl, ap, sym, ◌∙◌, arith}
use Rattle.std.specs.List.{range_with_len, IsDistinct}
use Rattle.std.proofs.Math.ListN.{get_or-eq_default}
use Rattle.std.proofs.Math.Nat.{add-mul}
use Rattle.std.proofs.lemmas.List.Elements.{filter-append}
use Rattle.std.proofs.lemmas.List.Sums.{sum_by-cons, sum_by_push}
use Rattle.std.proofs.lemmas.Bool.{cases_lt, cases_eq, cond-true, cond-false, eq-eqb, ne_eqb, true≢false}
use Rattle.election_snapshot.specs.Snapshot.{Snapshot, Voter, nobody, has, nominates, stake_of, total_stake}
use Rattle.weight_book.specs.Passing.{nominators}
use Rattle.weight_book.proofs.SumLemmas.{sum_filter_push, sum_filter-le, sum_le, sum_same}
use Rattle.weight_book.proofs.StakeLemmas.{range_more, stakes_before, stakes_in_order}
use Rattle.weight_book.proofs.GivenEdgeLemmas.{filtered_sum}
use Rattle.seat_race.specs.Tables.{nominators_before}
use Rattle.seat_race.proofs.InLemmas.{In, in_filter, in_range}
use Rattle.seat_race.proofs.OrderLemmas.{rises_range, rises_distinct, rises-filter}

pub before_more : (snapshot : Snapshot) (value : ℕ → ℕ) (target voter : ℕ) → sum_by value (nominators_before snapshot target (voter + 1))
    ≡ sum_by value (nominators_before snapshot target voter) + cond (nominates snapshot voter target) (value voter) 0
before_more snapshot value target voter = ap (λ ns. sum_by value (filter (λ n. nominates snapshot n target) ns)) (range_more voter)
    ∙ sum_filter_push (λ n. nominates snapshot n target) value (range_with_len 0 voter) voter

-- only voters nominate
pub nominates_in_range : (snapshot : Snapshot) (voter target : ℕ) → nominates snapshot voter target ≡ true → voter < length snapshot.voters
nominates_in_range snapshot voter target t = elim (cases_lt voter (length snapshot.voters)) [
  | inl l ↦ l
  | inr l ↦ absurd (true≢false (sym t ∙ ap (λ (v : Voter). has v.votes target) (get_or-eq_default snapshot.voters nobody l)))
]

pub has_nominators : (snapshot : Snapshot) (voter target : ℕ) → nominates snapshot voter target ≡ true → In (nominators snapshot target) voter
has_nominators snapshot voter target t = in_filter (λ n. nominates snapshot n target) (range_with_len 0 (length snapshot.voters)) voter
    (in_range 0 (length snapshot.voters) voter (omega arith) (omega (arith, nominates_in_range snapshot voter target t))) t

pub nominators_distinct : (snapshot : Snapshot) (target : ℕ) → IsDistinct nat_eq (nominators snapshot target)
nominators_distinct snapshot target = rises_distinct (λ n. n) (nominators snapshot target)
    (rises-filter (λ n. n) (λ n. nominates snapshot n target) (range_with_len 0 (length snapshot.voters)) (rises_range 0 (length snapshot.voters)))

pub nominators_more : (snapshot : Snapshot) (target voter : ℕ) → nominators_before snapshot target (voter + 1)
    ≡ nominators_before snapshot target voter ++ cond (nominates snapshot voter target) (voter ∷ []) []
nominators_more snapshot target voter = ap (filter (λ n. nominates snapshot n target)) (range_more voter)
    ∙ filter-append (λ n. nominates snapshot n target) (range_with_len 0 voter) (voter ∷ [])

-- values no greater than the stakes fit into them, also with one more
pub values_fit : (snapshot : Snapshot) (value : ℕ → ℕ) → ((voter : ℕ) → value voter ≤ stake_of snapshot voter) → (voter target : ℕ) → voter < length snapshot.voters
    → sum_by value (nominators_before snapshot target voter) + value voter ≤ total_stake snapshot
values_fit snapshot value within voter target h = omega (
  arith,
  sum_filter-le (λ n. nominates snapshot n target) value (range_with_len 0 voter),
  sum_le value (stake_of snapshot) (range_with_len 0 voter) (λ k d l. within (get_or (range_with_len 0 voter) k d)),
  within voter,
  stakes_before snapshot (voter + 1) (omega (arith, h)),
  ap (sum_by (stake_of snapshot)) (range_more voter),
  sum_by_push (stake_of snapshot) (range_with_len 0 voter) voter,
)

pub stake_fits : (snapshot : Snapshot) (voter : ℕ) → voter < length snapshot.voters → stake_of snapshot voter ≤ total_stake snapshot
stake_fits snapshot voter h = omega (arith, values_fit snapshot (stake_of snapshot) (λ _. omega arith) voter 0 h)

pub stakes_to_fit : (snapshot : Snapshot) (target : ℕ) → sum_by (stake_of snapshot) (nominators snapshot target) ≤ total_stake snapshot
stakes_to_fit snapshot target = omega (
  arith,
  sum_filter-le (λ n. nominates snapshot n target) (stake_of snapshot) (range_with_len 0 (length snapshot.voters)),
  stakes_in_order snapshot,
)

-- ---- one term of a sum
none_below : (f : ℕ → ℕ) (n low count : ℕ) → n < low → sum_by (λ m. cond (nat_eq m n) (f m) 0) (range_with_len low count) ≡ 0
none_below f n low zero l = refl
none_below f n low (suc count) l = rw (sum_by-cons (λ m. cond (nat_eq m n) (f m) 0) low (range_with_len (low + 1) count)) (omega (
  arith,
  cond-false (nat_eq low n) (f low) 0 (ne_eqb low n (λ e. absurd (omega (arith, l, e)))),
  none_below f n (low + 1) count (omega (arith, l)),
))

pub only_one : (f : ℕ → ℕ) (n low count : ℕ) → low ≤ n → n < low + count → sum_by (λ m. cond (nat_eq m n) (f m) 0) (range_with_len low count) ≡ f n
only_one f n low zero p q = absurd (omega (arith, p, q))
only_one f n low (suc count) p q = rw (sum_by-cons (λ m. cond (nat_eq m n) (f m) 0) low
    (range_with_len (low + 1) count)) (at (cases_eq low n) (λ l. only_one f n (low + 1) count l (omega (arith, q))))
  where
    at : (low ≡ n) ⊎ (low ≡ n → ⊥) → (low + 1 ≤ n → sum_by (λ m. cond (nat_eq m n) (f m) 0) (range_with_len (low + 1) count) ≡ f n)
        → cond (nat_eq low n) (f low) 0 + sum_by (λ m. cond (nat_eq m n) (f m) 0) (range_with_len (low + 1) count) ≡ f n
    at (inl e) more = omega (
      arith,
      cond-true (nat_eq low n) (f low) 0 (eq-eqb low n e),
      none_below f n (low + 1) count (omega (arith, e)),
      ap f e,
    )
    at (inr d) more = omega (arith, cond-false (nat_eq low n) (f low) 0 (ne_eqb low n d), more (beyond low n p d)) where
      beyond : (low n : ℕ) → low ≤ n → (low ≡ n → ⊥) → low + 1 ≤ n
      beyond low n l differ = omega (arith, l, differ)

-- of the nominators one at most is this voter
pub one_nominator : (snapshot : Snapshot) (f : ℕ → ℕ) (voter target : ℕ) → voter < length snapshot.voters
    → sum_by (λ n. cond (nat_eq n voter) (f n) 0) (nominators snapshot target) ≡ cond (nominates snapshot voter target) (f voter) 0
one_nominator snapshot f voter target h =
    filtered_sum (λ n. cond (nat_eq n voter) (f n) 0) (λ n. nominates snapshot n target) all
    ∙ sum_same (λ n. cond (nominates snapshot n target) (cond (nat_eq n voter) (f n) 0) 0) (λ n. cond (nat_eq n voter) (cond (nominates snapshot n target) (f n) 0) 0)
    (λ n. swapped (f n) (nominates snapshot n target) (nat_eq n voter)) all
    ∙ only_one (λ n. cond (nominates snapshot n target) (f n) 0) voter 0 (length snapshot.voters) (omega arith) (omega (arith, h))
  where
    all : List ℕ
    all = range_with_len 0 (length snapshot.voters)

    swapped : (amount : ℕ) (a b : Bool) → cond a (cond b amount 0) 0 ≡ cond b (cond a amount 0) 0
    swapped amount true true = refl
    swapped amount true false = refl
    swapped amount false true = refl
    swapped amount false false = refl

pub sum_times : (f : ℕ → ℕ) (factor : ℕ) (numbers : List ℕ) → sum_by (λ n. f n * factor) numbers ≡ sum_by f numbers * factor
sum_times f factor [] = omega arith
sum_times f factor (n ∷ numbers) = sum_by-cons (λ m. f m * factor) n numbers
    ∙ ap (λ m. f n * factor + m) (sum_times f factor numbers)
    ∙ sym (add-mul (f n) (sum_by f numbers) factor)
    ∙ ap (λ m. m * factor) (sym (sum_by-cons f n numbers))
