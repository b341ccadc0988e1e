-- The order of the members does not matter.
use Rattle.std.proofs.Common.{◌≡◌, ℕ, zero, suc, ◌+◌, ◌<◌, ◌≤◌, true, nat_eq, List, [], ◌∷◌, length, get_or, Contains, IsPermutation, inl, inr, sym, ◌∙◌, arith}
use Rattle.std.specs.List.{IsDistinct, range_with_len}
use Rattle.std.specs.List.Sorted.{IsNonDecreasing, IsStrictlyIncreasing}
use Rattle.std.proofs.lemmas.List.Sorted.{All-permutation, Contains-permutation, IsPermutation-sym, length_permutation}
use Rattle.std.proofs.lemmas.List.FromFn.{length-range_with_len}
use Rattle.std.proofs.lemmas.List.Folds.{list_any_at}
use Rattle.std.proofs.lemmas.Map.Keys.{IsDistinct-IsPermutation}
use Rattle.std.proofs.lemmas.Map.Made.{AllPairs-from_IsDistinct}
use Rattle.std.proofs.lemmas.Bool.{or_cases, eqb-true, eq-eqb, true≢false, cases_Bool, both_ways}
use Rattle.std.proofs.lemmas.Bool.Decides.{Decides-eqb}
use Rattle.election_snapshot.specs.Snapshot.{Snapshot, has}
use Rattle.weight_book.specs.Weights.{Weights, Follows}
use Rattle.weight_book.specs.Passing.{Passes}
use Rattle.weight_book.proofs.SumLemmas.{sum_covered, sum_of_ones, has_range, eqb_turned}

has_contains : (numbers : List ℕ) (number : ℕ) → has numbers number ≡ true → Contains numbers number
has_contains [] number h = absurd (true≢false (sym h))
has_contains (other ∷ numbers) number h = elim (or_cases (nat_eq other number) (has numbers number) h) [
  | inl e ↦ (zero, omega arith, eqb-true other number e)
  | inr e ↦ let rest = has_contains numbers number e in (suc rest.0, omega arith, rest.2)
]

contains_has : (numbers : List ℕ) (number : ℕ) → Contains numbers number → has numbers number ≡ true
contains_has numbers number h = list_any_at (λ other. nat_eq other number) numbers h.0 number h.1 (eq-eqb (get_or numbers h.0 number) number h.2)

has_there : (old new : List ℕ) (number : ℕ) → IsPermutation old new → has old number ≡ true → has new number ≡ true
has_there old new number moved h = contains_has new number (Contains-permutation old new number moved (has_contains old number h))

pub has_permutation : (old new : List ℕ) (number : ℕ) → IsPermutation old new → has new number ≡ has old number
has_permutation old new number moved = elim (cases_Bool (has old number)) [
  | inl t ↦ has_there old new number moved t ∙ sym t
  | inr f ↦ elim (cases_Bool (has new number)) [
    | inl t ↦ absurd (both_ways (has old number) f (has_there new old number (IsPermutation-sym old new moved) t))
    | inr g ↦ g ∙ sym f
  ]
]

module _ (snapshot : Snapshot) (old new : Weights) (moved : IsPermutation old.committee new.committee) (same : new.edges ≡ old.edges) where
  follows_reordered : Follows snapshot old → Follows snapshot new
  follows_reordered h = record {
    members_in_range = All-permutation (λ member. member < length snapshot.targets) old.committee new.committee moved h.members_in_range;
    members_distinct = IsDistinct-IsPermutation nat_eq eqb_turned old.committee new.committee moved h.members_distinct;
    pairs_distinct = rw same h.pairs_distinct;
    voters_in_range = rw same h.voters_in_range;
    to_members = rw same (λ k d l. has_there old.committee new.committee (get_or old.edges k d).target moved (h.to_members k d l));
    nominated = rw same h.nominated;
  }

  pub passes_reordered : Passes snapshot old → Passes snapshot new
  passes_reordered h = record {
    feasible = record {
      follows = follows_reordered h.feasible.follows;
      seats_filled = length_permutation old.committee new.committee moved ∙ h.feasible.seats_filled;
      within_stakes = rw same h.feasible.within_stakes;
    };
    none_outweighs = λ target l outside. rw same (h.none_outweighs target l (sym (has_permutation old.committee new.committee target moved) ∙ outside));
  }

-- distinct numbers that do not fall rise
pub rising : (numbers : List ℕ) → IsNonDecreasing numbers → IsDistinct nat_eq numbers → IsStrictlyIncreasing numbers
rising numbers up distinct k h = apart (up k (k + 1) 0 (omega arith) h) (AllPairs-from_IsDistinct Decides-eqb numbers distinct k (k + 1) 0 (omega arith) h) where
  apart : {a b : ℕ} → a ≤ b → (a ≡ b → ⊥) → a < b
  apart p differ = omega (arith, p, differ)

-- there are no more members than targets
pub members_few : (snapshot : Snapshot) (weights : Weights) → Follows snapshot weights → length weights.committee ≤ length snapshot.targets
members_few snapshot weights h =
    let all = range_with_len 0 (length snapshot.targets) in
    let covered = sum_covered (λ _. 1) weights.committee all h.members_distinct
    (λ k d l. has_range 0 (length snapshot.targets) (get_or weights.committee k d) (omega arith) (omega (arith, h.members_in_range k d l))) in
    omega (arith, covered, sum_of_ones weights.committee, sum_of_ones all, length-range_with_len 0 (length snapshot.targets))
