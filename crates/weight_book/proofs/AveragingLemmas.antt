-- Weights that pass deny nobody. Suppose a group that holds the stake of r seats, all of whom nominate one target outside,
-- nominates fewer than r members. The group pays for members that it nominates alone, for each at most the price of a seat, so
-- for fewer than r seats in all. What it has left of the stake of r seats is the price of a seat or more, so the target
-- outside outweighs. And a committee that denies nobody is proportional, since a group that agrees on r targets and nominates
-- fewer than r members nominates one target outside.
use Rattle.std.proofs.Common.{◌≡◌, ℕ, zero, suc, ◌+◌, ◌*◌, ◌/◌, ◌<◌, ◌≤◌, ◌⊎◌, min, Bool, true, false, cond, nat_eq, List, [], ◌∷◌}
use Rattle.std.proofs.Common.{length, get_or, filter, sum_by, count_by, All, AllPairs, ◌≢◌, inl, inr, refl, ap, sym, subst, ◌∙◌, arith}
use Rattle.std.specs.List.{IsDistinct, list_any, range_with_len}
use Rattle.std.specs.List.Sorted.{IsStrictlyIncreasing}
use Rattle.std.proofs.Math.Nat.{mul-div-le, le_of_mul-le-mul_left, div-zero, mul-add, add-mul, mul_comm, mul-le-mul_left}
use Rattle.std.proofs.lemmas.List.Sums.{sum_by-cons, sum_by-le, length-filter}
use Rattle.std.proofs.lemmas.List.Elements.{All-cons}
use Rattle.std.proofs.lemmas.Bool.{cases_Bool, cases_lt, or_cases, or_left, or_right, eqb-true}
use Rattle.std.proofs.lemmas.Nat.{mul-le}
use Rattle.std.proofs.lemmas.List.Folds.{list_any_at}
use Rattle.std.proofs.lemmas.Bool.Decides.{Decides-eqb}
use Rattle.std.proofs.lemmas.List.Kept.{AllPairs-from_increasing}
use Rattle.std.proofs.lemmas.Map.Made.{IsDistinct-from_AllPairs}
use Rattle.npos_base.specs.declared.figures.Edge.{Edge}
use Rattle.election_snapshot.specs.Snapshot.{Snapshot, IsWellFormed, has, nominates, stake_of, total_stake, threshold}
use Rattle.election_snapshot.proofs.HasLemmas.{filter_has}
use Rattle.weight_book.specs.Weights.{Weights, edges_to, support, amount_sum, IsFeasible}
use Rattle.weight_book.specs.Passing.{pay, paid, slack, nominators, prescore, Passes}
use Rattle.weight_book.specs.Proportional.{IsCohesive, nominated_by, group_stake, AveragingLaw}
use Rattle.weight_book.specs.Answered.{IsClaim, IsDenied, IsAnswered, IsWitnessed, WitnessLaw, PassingLaw, AnsweredLaw}
use Rattle.weight_book.proofs.SumLemmas.{sum_among, at_least, at_most, sum_covered, sum_of_ones, sum_le, sum_of_sums, sum_filter-cons, has_range}

-- a test of a number that stands in a list
list_any_has : (test : ℕ → Bool) (numbers : List ℕ) (number : ℕ) → has numbers number ≡ true → test number ≡ true → list_any test numbers ≡ true
list_any_has test [] number h t = h
list_any_has test (other ∷ numbers) number h t = elim (or_cases (nat_eq other number) (has numbers number) h) [
  | inl e ↦ or_left (test other) (list_any test numbers) (ap test (eqb-true other number e) ∙ t)
  | inr e ↦ or_right (test other) (list_any test numbers) (list_any_has test numbers number e t)
]

-- all of the numbers stand in the list, or one that does not
all_or_one : (numbers others : List ℕ) → All (λ number. has others number ≡ true) numbers ⊎ ((k : ℕ) × (k < length numbers) × (has others (get_or numbers k 0) ≡ false))
all_or_one [] others = inl (λ k d h. absurd (omega arith))
all_or_one (number ∷ numbers) others = elim (cases_Bool (has others number)) [
  | inl t ↦ elim (all_or_one numbers others) [
    | inl all ↦ inl (All-cons (λ n. has others n ≡ true) number numbers t all)
    | inr one ↦ inr (suc one.0, omega arith, one.2)
  ]
  | inr f ↦ inr (0, omega arith, f)
]

-- rising numbers are distinct
rising_distinct : (numbers : List ℕ) → IsStrictlyIncreasing numbers → IsDistinct nat_eq numbers
rising_distinct numbers h = IsDistinct-from_AllPairs Decides-eqb numbers (apart (AllPairs-from_increasing numbers h)) where
  apart : AllPairs (λ x y. x < y) numbers → AllPairs (λ x y. x ≢ y) numbers
  apart below = λ i j d p q e. absurd (omega (arith, below i j d p q))

-- one member's pays sum to at most the price of a seat
rounded_down : (price support : ℕ) (edges : List Edge)
    → support * sum_by (λ (edge : Edge). edge.amount * price / support) edges ≤ amount_sum edges * price
rounded_down price support [] = omega arith
rounded_down price support (edge ∷ edges) =
    let one = mul-div-le (edge.amount * price) support in
    let rest = rounded_down price support edges in
    rw (sum_by-cons (λ (edge : Edge). edge.amount * price / support) edge edges, sum_by-cons (λ (edge : Edge). edge.amount) edge edges)
    (joined support (edge.amount * price / support) (sum_by (λ (edge : Edge). edge.amount * price / support) edges) edge.amount (amount_sum edges) price one rest)
  where
    joined : (s a b n m p : ℕ) → s * a ≤ n * p → s * b ≤ m * p → s * (a + b) ≤ (n + m) * p
    joined s a b n m p h k = rw (mul-add s a b, mul_comm (n + m) p, mul-add p n m) (omega (arith, h, k, mul_comm n p, mul_comm m p))

none_paid : (price : ℕ) (edges : List Edge) → sum_by (λ (edge : Edge). edge.amount * price / 0) edges ≡ 0
none_paid price [] = refl
none_paid price (edge ∷ edges) = rw (sum_by-cons (λ (edge : Edge). edge.amount * price / 0) edge edges)
    (omega (arith, div-zero (edge.amount * price), none_paid price edges))

within_price : (price support : ℕ) (edges : List Edge) → amount_sum edges ≡ support → sum_by (λ (edge : Edge). edge.amount * price / support) edges ≤ price
within_price price zero edges e = omega (arith, none_paid price edges)
within_price price (suc s) edges e =
    le_of_mul-le-mul_left {k = suc s} (omega (arith, rounded_down price (suc s) edges, ap (λ n. n * price) e)) (omega arith)

-- the pays of edges to one target all have its support
same_support : (cap : ℕ) (all : List Edge) (target : ℕ) (edges : List Edge)
    → sum_by (pay cap all) (edges_to edges target) ≡ sum_by (λ (edge : Edge). edge.amount * min cap (support all target) / support all target) (edges_to edges target)
same_support cap all target [] = refl
same_support cap all target (edge ∷ edges) =
    rw (
      sum_filter-cons (λ (e : Edge). nat_eq e.target target) (pay cap all) edge edges,
      sum_filter-cons (λ (e : Edge). nat_eq e.target target) (λ (e : Edge). e.amount * min cap (support all target) / support all target) edge edges,
    )
    (omega (arith, same_support cap all target edges, one))
  where
    one : cond (nat_eq edge.target target) (pay cap all edge) 0 ≡ cond (nat_eq edge.target target) (edge.amount * min cap (support all target) / support all target) 0
    one = elim (cases_Bool (nat_eq edge.target target)) [
      | inl t ↦ rw t (ap (λ n. edge.amount * min cap (support all n) / support all n) (eqb-true edge.target target t))
      | inr f ↦ rw f refl
    ]

pays_to : (cap : ℕ) (edges : List Edge) (target : ℕ) → sum_by (pay cap edges) (edges_to edges target) ≤ cap
pays_to cap edges target =
    let price = min cap (support edges target) in
    let within : sum_by (λ (edge : Edge). edge.amount * price / support edges target) (edges_to edges target) ≤ price = within_price price (support edges target) (edges_to edges target) refl in
    omega (arith, within, same_support cap edges target edges)

module _ (snapshot : Snapshot) (weights : Weights) (formed : IsWellFormed snapshot) (feasible : IsFeasible snapshot weights) (target : ℕ) (group : List ℕ)
    (r : ℕ) (claim : IsClaim snapshot target group r) where
  abbrev represented : List ℕ
  represented = filter (nominated_by snapshot group) weights.committee

  abbrev t : ℕ
  t = threshold snapshot

  -- the group pays for members that it nominates alone
  pays_elsewhere : sum_among (λ (edge : Edge). edge.voter) (pay t weights.edges) weights.edges group
      ≤ sum_among (λ (edge : Edge). edge.target) (pay t weights.edges) weights.edges represented
  pays_elsewhere = sum_le (λ (edge : Edge). cond (has group edge.voter) (pay t weights.edges edge) 0)
      (λ (edge : Edge). cond (has represented edge.target) (pay t weights.edges edge) 0) weights.edges
      (λ k d h. one (get_or weights.edges k d) (feasible.follows.to_members k d h) (feasible.follows.nominated k d h))
    where
      one : (edge : Edge) → has weights.committee edge.target ≡ true → nominates snapshot edge.voter edge.target ≡ true
          → cond (has group edge.voter) (pay t weights.edges edge) 0 ≤ cond (has represented edge.target) (pay t weights.edges edge) 0
      one edge member nominated = elim (cases_Bool (has group edge.voter)) [
        | inl g ↦
            let by_group : nominated_by snapshot group edge.target ≡ true = list_any_has (λ voter. nominates snapshot voter edge.target) group edge.voter g nominated in
            let there : has represented edge.target ≡ true = filter_has (nominated_by snapshot group) weights.committee edge.target member by_group in
            rw (g, there) (omega arith)
        | inr g ↦ rw g (omega arith)
      ]

  group_distinct : IsDistinct nat_eq group
  group_distinct = rising_distinct group claim.rising

  group_pays : sum_by (paid t weights.edges) group ≤ length represented * t
  group_pays =
      let to_all = at_most (λ (edge : Edge). edge.voter) (pay t weights.edges) weights.edges group group_distinct in
      let by_member = at_least (λ (edge : Edge). edge.target) (pay t weights.edges) weights.edges represented in
      let each = sum_by-le (λ target. sum_by (pay t weights.edges) (edges_to weights.edges target)) t represented (λ k d h. pays_to t weights.edges (get_or represented k d)) in
      omega (arith, to_all, pays_elsewhere, by_member, each)

  group_left : group_stake snapshot group ≤ sum_by (slack t snapshot weights.edges) group + sum_by (paid t weights.edges) group
  group_left = omega (
    arith,
    sum_le (stake_of snapshot) (λ voter. slack t snapshot weights.edges voter + paid t weights.edges voter) group (λ k d h. omega arith),
    sum_of_sums (slack t snapshot weights.edges) (paid t weights.edges) group,
  )

  -- the group holds the price of r seats
  group_holds : r * t ≤ group_stake snapshot group
  group_holds = held snapshot.seats r t (total_stake snapshot) (group_stake snapshot group) formed.seats_some (mul-div-le (total_stake snapshot) snapshot.seats) claim.enough_stake where
    held : (k r price total stake : ℕ) → 0 < k → k * price ≤ total → r * total ≤ k * stake → r * price ≤ stake
    held k r price total stake pos h enough =
        let more = mul-le-mul_left r h in
        le_of_mul-le-mul_left {k = k} (grind (arith, more, enough)) pos

  -- what the group has left counts for that target
  left_counts : sum_by (slack t snapshot weights.edges) group ≤ prescore t snapshot weights.edges target
  left_counts = sum_covered (slack t snapshot weights.edges) group (nominators snapshot target) group_distinct
      (λ i d l. filter_has (λ voter. nominates snapshot voter target) (range_with_len 0 (length snapshot.voters)) (get_or group i d)
      (has_range 0 (length snapshot.voters) (get_or group i d) (omega arith) (omega (arith, claim.voters_in_range i d l)))
      (claim.all_nominate i d l))

  enough : prescore t snapshot weights.edges target < t → length represented < r → ⊥
  enough below few =
      short (length represented) r t (group_stake snapshot group) (sum_by (slack t snapshot weights.edges) group) (sum_by (paid t weights.edges) group)
      few group_holds group_left group_pays (omega (arith, below, left_counts))
    where
      short : (m r price stake left pays : ℕ) → m < r → r * price ≤ stake → stake ≤ left + pays → pays ≤ m * price → left < price → ⊥
      short m r price stake left pays h holds split few_pays below = omega (arith, holds, split, few_pays, below, mul-le (m + 1) price r price (omega arith) (omega arith), add-mul m 1 price)

-- each target outside has its own witness
pub witnessed : WitnessLaw
witnessed snapshot committee formed witness target denied =
    let w = witness target denied.in_range denied.outside in
    enough snapshot w.weights formed w.feasible target denied.group denied.r denied.claim w.below
    (omega (
      arith,
      denied.few,
      length-filter (nominated_by snapshot denied.group) w.weights.committee,
      ap (λ (members : List ℕ). count_by (nominated_by snapshot denied.group) members) w.of_committee,
    ))

pub passing : PassingLaw
passing snapshot weights formed passes =
    witnessed snapshot weights.committee formed
    (λ target inside out. record {
      weights = weights;
      of_committee = refl;
      feasible = passes.feasible;
      below = passes.none_outweighs target inside out;
    })

-- a group that agrees on r targets and nominates fewer than r members is denied one of them
module _ (snapshot : Snapshot) (committee : List ℕ) (formed : IsWellFormed snapshot) (group : List ℕ) (r : ℕ)
    (some : 1 ≤ r) (cohesive : IsCohesive snapshot group r) where
  abbrev members : List ℕ
  members = filter (nominated_by snapshot group) committee

  outside : length members < r → (k : ℕ) × (k < length cohesive.common) × (has committee (get_or cohesive.common k 0) ≡ false)
  outside few = elim (all_or_one cohesive.common committee) [
    | inl all ↦ absurd (too_many all)
    | inr one ↦ one
  ] where
    some_voter : 1 ≤ length group
    some_voter = nonempty group (filled snapshot.seats r (total_stake snapshot) (group_stake snapshot group) formed.seats_some some formed.total_enough cohesive.enough_stake) where
      filled : (k r total stake : ℕ) → 1 ≤ k → 1 ≤ r → k * k ≤ total → r * total ≤ k * stake → 1 ≤ stake
      filled k r total zero p q h e = let some_total : 1 ≤ total = omega (arith, mul-le 1 1 k k p p) in absurd (omega (arith, mul-le 1 1 r total q some_total))
      filled k r total (suc stake) p q h e = omega arith

      nonempty : (voters : List ℕ) → 1 ≤ sum_by (stake_of snapshot) voters → 1 ≤ length voters
      nonempty [] h = absurd (omega arith)
      nonempty (voter ∷ voters) h = omega arith

    too_many : All (λ target. has committee target ≡ true) cohesive.common → ⊥
    too_many all =
        let covered = sum_covered (λ _. 1) cohesive.common members cohesive.common_distinct
        (λ k d h. filter_has (nominated_by snapshot group) committee (get_or cohesive.common k d) (all k d h)
        (list_any_at (λ voter. nominates snapshot voter (get_or cohesive.common k d)) group 0 0 some_voter (cohesive.all_nominate 0 0 some_voter k d h))) in
        omega (arith, few, covered, sum_of_ones cohesive.common, sum_of_ones members, cohesive.common_count)

  -- the group is denied the one outside
  denies : (few : length members < r) → IsDenied snapshot committee (get_or cohesive.common (outside few).0 0)
  denies few = let one = outside few in record {
    in_range = cohesive.common_in_range one.0 0 one.1;
    outside = one.2;
    group = group;
    r = r;
    claim = record {
      rising = cohesive.rising;
      voters_in_range = cohesive.voters_in_range;
      all_nominate = λ i d l. cohesive.all_nominate i d l one.0 0 one.1;
      enough_stake = cohesive.enough_stake;
    };
    few = omega (arith, few, length-filter (nominated_by snapshot group) committee);
  }

pub answered : AnsweredLaw
answered snapshot weights formed nobody group r some most cohesive = elim (cases_lt (count_by (nominated_by snapshot group) weights.committee) r) [
  | inl few ↦
      let short : length (filter (nominated_by snapshot group) weights.committee) < r = omega (arith, few, length-filter (nominated_by snapshot group) weights.committee) in
      let one = outside snapshot weights.committee formed group r some cohesive short in
      absurd (nobody (get_or cohesive.common one.0 0) (denies snapshot weights.committee formed group r some cohesive short))
  | inr h ↦ h
]

pub averaging : AveragingLaw
averaging snapshot weights formed passes = answered snapshot weights formed (passing snapshot weights formed passes)
