-- The votes of a generated voter: different targets, none past the last.
use Rattle.std.proofs.Common.{◌≡◌, ℕ, zero, suc, ◌+◌, ◌-◌, ◌%◌, ◌<◌, ◌≤◌, ◌⊎◌, inl, inr, false, nat_eq, nat_le, [], ◌∷◌, ◌++◌, map, refl, ap₂, arith, ◌||◌}
use Rattle.std.specs.List.{list_any, range_with_len}
use Rattle.std.proofs.Math.Nat.{mod-eq_of_lt, mod-eq-sub-mod}
use Rattle.std.proofs.lemmas.Nat.{mod_below}
use Rattle.std.proofs.lemmas.Bool.{cases_lt}
use Rattle.std.proofs.lemmas.Bool.Decides.{nat_tests}
use Rattle.std.proofs.lemmas.List.FromFn.{map-range_with_len_more}
use Rattle.election_snapshot.specs.Snapshot.{has}
use Rattle.election_snapshot.specs.Draft.{has_repeat}
use Rattle.demo_election.specs.Generated.{votes_round}

-- one vote more
pub votes_more : (targets first i : ℕ) → votes_round targets first (i + 1) ≡ votes_round targets first i ++ (first + i) % targets ∷ []
votes_more targets first i = map-range_with_len_more (λ (n : ℕ). (first + n) % targets) 0 i i (omega arith)

small : (n targets : ℕ) → n < targets → n % targets ≡ n
small n targets h = mod-eq_of_lt h

-- a vote is the sum of its place and the first, or that less all targets
wrapped : (targets first i : ℕ) → first < targets → i < targets → ((first + i) % targets ≡ first + i) ⊎ ((first + i) % targets + targets ≡ first + i)
wrapped targets first i p q = elim (cases_lt (first + i) targets) [
  | inl below ↦ inl (mod-eq_of_lt below)
  | inr past ↦ inr (let m = mod-eq-sub-mod past in let n = small (first + i - targets) targets (omega (arith, p, q, past)) in omega (arith, m, n, past))
]

apart : (targets first i j : ℕ) → first < targets → i < j → j < targets → nat_eq ((first + j) % targets) ((first + i) % targets) ≡ false
apart targets first i j p q r =
    let i_below : i < targets = omega (arith, q, r) in
    elim (wrapped targets first i p i_below) [
      | inl a ↦ elim (wrapped targets first j p r) [
        | inl b ↦ let d : (first + i) % targets < (first + j) % targets = omega (arith, a, b, q) in grind (arith, nat_tests, d)
        | inr b ↦ let d : (first + j) % targets < (first + i) % targets = omega (arith, a, b, q, r) in grind (arith, nat_tests, d)
      ]
      | inr a ↦ elim (wrapped targets first j p r) [
        | inl b ↦ let d : (first + i) % targets < (first + j) % targets = omega (arith, a, b, q, i_below) in grind (arith, nat_tests, d)
        | inr b ↦ let d : (first + i) % targets < (first + j) % targets = omega (arith, a, b, q) in grind (arith, nat_tests, d)
      ]
    ]

-- none is a vote of a place behind
new_from : (targets first i start count : ℕ) → first < targets → i < start → start + count ≤ targets
    → has (map (λ n. (first + n) % targets) (range_with_len start count)) ((first + i) % targets) ≡ false
new_from targets first i start zero p q r = refl
new_from targets first i start (suc count) p q r =
    ap₂ (λ a b. a || b) (apart targets first i start p q (omega (arith, r))) (new_from targets first i (start + 1) count p (omega (arith, q)) (omega (arith, r)))

distinct_from : (targets first start count : ℕ) → first < targets → start + count ≤ targets → has_repeat (map (λ n. (first + n) % targets) (range_with_len start count)) ≡ false
distinct_from targets first start zero p r = refl
distinct_from targets first start (suc count) p r =
    ap₂ (λ a b. a || b) (new_from targets first start (start + 1) count p (omega arith) (omega (arith, r))) (distinct_from targets first (start + 1) count p (omega (arith, r)))

pub votes_distinct : (targets first count : ℕ) → first < targets → count ≤ targets → has_repeat (votes_round targets first count) ≡ false
votes_distinct targets first count p r = distinct_from targets first 0 count p (omega (arith, r))

within_from : (targets first start count : ℕ) → 0 < targets → list_any (λ target. nat_le targets target) (map (λ n. (first + n) % targets) (range_with_len start count)) ≡ false
within_from targets first start zero p = refl
within_from targets first start (suc count) p =
    let below = mod_below (first + start) targets p in
    let here : nat_le targets ((first + start) % targets) ≡ false = grind (arith, nat_tests, below) in
    ap₂ (λ a b. a || b) here (within_from targets first (start + 1) count p)

pub votes_within : (targets first count : ℕ) → 0 < targets → list_any (λ target. nat_le targets target) (votes_round targets first count) ≡ false
votes_within targets first count p = within_from targets first 0 count p
