-- Feasible weights can be packed, and the solution that they pack to expands to weights of a committee of the same members.
use Rattle.std.proofs.Common.{◌≡◌, ℕ, zero, suc, ◌+◌, ◌-◌, ◌<◌, ◌≤◌, ◌||◌, Bool, true, false, not, nat_eq, nat_le, List, [], ◌∷◌, ◌++◌, length, map}
use Rattle.std.proofs.Common.{filter, fold, get_or, min, find, Option, Some, None, option_map, Ok, All, inl, inr, refl, sym, ap, ◌∙◌, subst, arith}
use Rattle.std.specs.List.{IsDistinct, AllByRecursion, flat_map, list_any, range_with_len}
use Rattle.std.proofs.Math.Nat.{zero-add}
use Rattle.std.proofs.Math.ListN.{get_or-map}
use Rattle.std.proofs.lemmas.Bool.{cases_Bool, cases_lt, leb-true, not_from_true, eq-eqb, ne_eqb, eqb-true, true≢false}
use Rattle.std.proofs.lemmas.List.{length-map, get_or_default}
use Rattle.std.proofs.lemmas.List.Elements.{All-head, All-tail, All-cons, All-nil, All-map, All-from_recursion}
use Rattle.std.proofs.lemmas.List.Folds.{Any-from_list_any, list_any_at, list_any-append}
use Rattle.std.proofs.lemmas.List.FromFn.{get_or-map-range_with_len, length-range_with_len, get_or-range_with_len}
use Rattle.npos_base.specs.declared.figures.Edge.{Edge}
use Rattle.npos_base.specs.declared.limits.TheConstants.{MOST_NOMINATIONS}
use Rattle.compact_solution.specs.declared.entry.TheConstants.{WIDE_GROUPS}
use Rattle.npos_base.specs.Edge.{edges_from}
use Rattle.election_snapshot.specs.Snapshot.{Snapshot, Voter, IsWellFormed, IsVoterOf, nobody, has, nominates, stake_of, votes_of, stakes_of}
use Rattle.election_snapshot.proofs.HasLemmas.{all_has, filter_has}
use Rattle.weight_book.specs.Weights.{Weights, IsFeasible}
use Rattle.weight_book.proofs.SumLemmas.{sum_covered, sum_of_ones}
use Rattle.compact_solution.specs.Solution.{Entry, targets_of, entries_of}
use Rattle.compact_solution.specs.Packing.{stake_at, choice_of, choices_of, chosen, kept_of, kept_at, entry_of, entries_with, groups_for}
use Rattle.compact_solution.specs.Packing.{groups_of, leads_to, is_kept, lower, lost_among, packed, packed_or_lost, IsPackable}
use Rattle.compact_solution.specs.Choosing.{no_choice}
use Rattle.compact_solution.proofs.PackLemmas.{choices_many}
use Rattle.compact_solution.proofs.GroupLemmas.{all_nominations, enough_groups}
use Rattle.compact_solution.proofs.FitLemmas.{all_chosen, few_chosen}
use Rattle.election_check.specs.declared.fault.Fault.{Fault}
use Rattle.election_check.specs.declared.fault.Fault.TheVariants.{NoVoter, NoTarget, VoterTwice, TargetTwice, NotNominated, BadShare, WrongSize}
use Rattle.election_check.specs.First.{when}
use Rattle.election_check.specs.Steps.{size_fault}
use Rattle.election_check.specs.Packed.{listed_in, expanded, unknown_target, repeated_target, unnominated_target, has_bad_share, entry_fault, voters_in, entries_fault, expand_fault}
use Rattle.election_check.proofs.FirstLemmas.{none_when, none_first, none_bad}
use Rattle.election_check.proofs.ListFacts.{All-flat_map, has_range, range_within, range_distinct, IsDistinct-append}
use Rattle.election_check.proofs.KeptLemmas.{same_target, own_distinct, chosen_distinct, targets_distinct, entry_targets, no_repeat_found, good_entry}

-- ## Lists

none_of : (p : ℕ → Bool) (xs : List ℕ) → All (λ x. p x ≡ false) xs → find p xs ≡ None
none_of p [] all = refl
none_of p (x ∷ xs) all = rw (All-head (λ x. p x ≡ false) x xs all) (none_of p xs (All-tail (λ x. p x ≡ false) x xs all))

any_map : {X Y : Type 0} (test : Y → Bool) (f : X → Y) (xs : List X) → list_any test (map f xs) ≡ list_any (λ x. test (f x)) xs
any_map test f [] = refl
any_map test f (x ∷ xs) = ap (λ b. test (f x) || b) (any_map test f xs)

any_flat : {X Y : Type 0} (test : Y → Bool) (f : X → List Y) (xs : List X) → list_any test (flat_map f xs) ≡ list_any (λ x. list_any test (f x)) xs
any_flat test f [] = refl
any_flat test f (x ∷ xs) = list_any-append test (f x) (flat_map f xs) ∙ ap (λ b. list_any test (f x) || b) (any_flat test f xs)

-- one that passes a filter and then a test
any_filter : (test p : ℕ → Bool) (xs : List ℕ) (x : ℕ) → has xs x ≡ true → p x ≡ true → test x ≡ true → list_any test (filter p xs) ≡ true
any_filter test p xs x there passes good =
    let any = Any-from_list_any (λ n. nat_eq n x) (filter p xs) (filter_has p xs x there passes) in
    list_any_at test (filter p xs) any.0 any.1 any.2 (ap test (any.3 ∙ eqb-true any.1 x any.4) ∙ good)

all_append : {X : Type 0} (P : X → Type 0) (xs ys : List X) → AllByRecursion P xs → AllByRecursion P ys → AllByRecursion P (xs ++ ys)
all_append P [] ys here there = there
all_append P (x ∷ xs) ys here there = (here.0, all_append P xs ys here.1 there)

all_weaker : {X : Type 0} (P Q : X → Type 0) → ((x : X) → P x → Q x) → (xs : List X) → AllByRecursion P xs → AllByRecursion Q xs
all_weaker P Q f [] all = tt
all_weaker P Q f (x ∷ xs) all = (f x all.0, all_weaker P Q f xs all.1)

kept_pass : (p : ℕ → Bool) (xs : List ℕ) → AllByRecursion (λ x. p x ≡ true) (filter p xs)
kept_pass p [] = tt
kept_pass p (x ∷ xs) = elim (cases_Bool (p x)) [
  | inl t ↦ rw t (t, kept_pass p xs)
  | inr t ↦ rw t (kept_pass p xs)
]

-- two lists of different numbers that stand in each other are of one length
same_length : (xs ys : List ℕ) → IsDistinct nat_eq xs → IsDistinct nat_eq ys → All (λ x. has ys x ≡ true) xs → All (λ y. has xs y ≡ true) ys → length xs ≡ length ys
same_length xs ys one other here there = omega (
  arith,
  sum_covered (λ _. 1) xs ys one here,
  sum_covered (λ _. 1) ys xs other there,
  sum_of_ones xs,
  sum_of_ones ys,
)

-- ## Members that are lost

some_lower : (least : ℕ) (members : List ℕ) → fold lower (Some least) members ≡ None → ⊥
some_lower least [] none = let e : Some least ≡ None = none in cc
some_lower least (member ∷ members) none = some_lower (min least member) members none

none_lost : (kept : List (List Edge)) (members : List ℕ) → lost_among kept members ≡ None → All (λ member. is_kept kept member ≡ true) members
none_lost kept [] none = All-nil (λ member. is_kept kept member ≡ true)
none_lost kept (member ∷ members) none = elim (cases_Bool (is_kept kept member)) [
  | inl t ↦ All-cons (λ member. is_kept kept member ≡ true) member members t (none_lost kept members (rw t at none))
  | inr t ↦ absurd (some_lower member (filter (λ other. not (is_kept kept other)) members) (rw t at none))
]

-- ## The entries

abbrev same_voter : Entry → Entry → Bool
same_voter a b = nat_eq a.voter b.voter

module _ (snapshot : Snapshot) (weights : Weights) (formed : IsWellFormed snapshot) (feasible : IsFeasible snapshot weights) where
  abbrev stakes : List ℕ
  stakes = stakes_of snapshot.voters

  abbrev kept : List (List Edge)
  kept = kept_of stakes weights.edges

  abbrev own : ℕ → List Edge
  own voter = edges_from weights.edges voter

  many : length stakes ≡ length snapshot.voters
  many = length-map snapshot.voters (λ (voter : Voter). voter.stake)

  stake_is : (voter : ℕ) → stake_at stakes voter ≡ stake_of snapshot voter
  stake_is voter = get_or-map (λ (voter : Voter). voter.stake) snapshot.voters voter nobody

  -- an edge of the voter, along a nomination to a member
  abbrev IsOwn : ℕ → Edge → Type 0
  IsOwn voter edge = (edge.voter ≡ voter) × (nominates snapshot voter edge.target ≡ true) × (has weights.committee edge.target ≡ true)

  own_all : (voter : ℕ) → All (IsOwn voter) (own voter)
  own_all voter = go weights.edges feasible.follows.nominated feasible.follows.to_members where
    go : (edges : List Edge) → All (λ (edge : Edge). nominates snapshot edge.voter edge.target ≡ true) edges → All (λ (edge : Edge). has weights.committee edge.target ≡ true) edges
        → All (IsOwn voter) (edges_from edges voter)
    go [] voted member = All-nil (IsOwn voter)
    go (edge ∷ edges) voted member =
        let later = go edges (All-tail (λ (e : Edge). nominates snapshot e.voter e.target ≡ true) edge edges voted)
        (All-tail (λ (e : Edge). has weights.committee e.target ≡ true) edge edges member) in
        elim (cases_Bool (nat_eq edge.voter voter)) [
          | inl t ↦
              let same = eqb-true edge.voter voter t in
              rw t (All-cons (IsOwn voter) edge (edges_from edges voter) (
                same,
                subst (λ (v : ℕ). nominates snapshot v edge.target ≡ true) same (All-head (λ (e : Edge). nominates snapshot e.voter e.target ≡ true) edge edges voted),
                All-head (λ (e : Edge). has weights.committee e.target ≡ true) edge edges member,
              )
              later)
          | inr t ↦ rw t later
        ]

  is_voter : (voter : ℕ) → voter < length snapshot.voters → IsVoterOf (length snapshot.targets) (get_or snapshot.voters voter nobody)
  is_voter voter h = formed.voters.each_voter voter nobody h

  few_own : (voter : ℕ) → voter < length snapshot.voters → length (own voter) ≤ MOST_NOMINATIONS
  few_own voter h =
      let targets = map (λ (edge : Edge). edge.target) (own voter) in
      let covered = sum_covered (λ _. 1) targets (votes_of snapshot voter)
      (targets_distinct (own voter) (own_distinct voter weights.edges feasible.follows.pairs_distinct))
      (All-map (λ target. has (votes_of snapshot voter) target ≡ true) (λ (edge : Edge). edge.target) (own voter) (λ k d l. (own_all voter k d l).1)) in
      omega (arith, covered, sum_of_ones targets, sum_of_ones (votes_of snapshot voter), length-map (own voter) (λ (edge : Edge). edge.target), (is_voter voter h).few_votes)

  none_own : (voter : ℕ) → length snapshot.voters ≤ voter → length (own voter) ≡ 0
  none_own voter h = go weights.edges feasible.follows.voters_in_range where
    go : (edges : List Edge) → All (λ (edge : Edge). edge.voter < length snapshot.voters) edges → length (edges_from edges voter) ≡ 0
    go [] all = refl
    go (edge ∷ edges) all =
        let other : nat_eq edge.voter voter ≡ false = ne_eqb edge.voter voter (λ e. omega (arith, e, h, All-head (λ (e : Edge). e.voter < length snapshot.voters) edge edges all)) in
        rw other (go edges (All-tail (λ (e : Edge). e.voter < length snapshot.voters) edge edges all))

  pub packable : All (λ (edge : Edge). 0 < edge.amount) weights.edges → IsPackable stakes weights.committee weights.edges
  packable above = record {
    few_voters = omega (arith, many, formed.voters.voters_few);
    voters_in_range = λ k d h. omega (arith, many, feasible.follows.voters_in_range k d h);
    pairs_distinct = feasible.follows.pairs_distinct;
    to_members = feasible.follows.to_members;
    above = above;
    few_edges = λ voter. elim (cases_lt voter (length snapshot.voters)) [
      | inl h ↦ few_own voter h
      | inr h ↦ omega (arith, none_own voter h)
    ];
    within = λ voter h. omega (arith, stake_is voter, feasible.within_stakes voter (omega (arith, h, many)));
  }

  kept_is : (voter : ℕ) → voter < length snapshot.voters → kept_at kept voter ≡ chosen (choice_of (stake_at stakes voter) (own voter))
  kept_is voter h =
      get_or_default kept voter [] (chosen no_choice) (omega (arith, h, many, length-map (choices_of stakes weights.edges) chosen, choices_many stakes weights.edges))
      ∙ (get_or-map chosen (choices_of stakes weights.edges) voter no_choice
      ∙ ap chosen (get_or-map-range_with_len (λ (v : ℕ). choice_of (stake_at stakes v) (own v)) 0 (length stakes) voter voter no_choice (omega (arith, h, many)) (zero-add voter)))

  kept_own : (voter : ℕ) → voter < length snapshot.voters → All (IsOwn voter) (kept_at kept voter)
  kept_own voter h = subst (λ (edges : List Edge). All (IsOwn voter) edges) (sym (kept_is voter h)) (all_chosen (IsOwn voter) (stake_at stakes voter) (own voter) (own_all voter))

  abbrev entry_at : ℕ → Entry
  entry_at voter = entry_of voter (stake_at stakes voter) (kept_at kept voter)

  abbrev count_at : ℕ → ℕ
  count_at voter = length (kept_at kept voter)

  -- an entry without a fault of its own, whose targets are members
  abbrev IsGood : Entry → Type 0
  IsGood entry = (entry_fault snapshot false entry ≡ None) × All (λ target. has weights.committee target ≡ true) (targets_of entry)

  member_below : (target : ℕ) → has weights.committee target ≡ true → target < length snapshot.targets
  member_below target there = all_has (λ member. member < length snapshot.targets) weights.committee target feasible.follows.members_in_range there

  entry_is_good : (voter : ℕ) → voter < length snapshot.voters → 1 ≤ count_at voter → IsGood (entry_at voter)
  entry_is_good voter h some = (
    none_first o1 (o2 ∷ o3 ∷ o4 ∷ o5 ∷ o6 ∷ []) (none_when (nat_le (length snapshot.voters) voter) (NoVoter voter) (not_le (length snapshot.voters) voter h))
        (none_first o2 (o3 ∷ o4 ∷ o5 ∷ o6 ∷ []) (ap (option_map NoTarget) (none_of (λ target. nat_le (length snapshot.targets) target) targets
        (λ k d l. not_le (length snapshot.targets) (get_or targets k d) (member_below (get_or targets k d) (members k d l)))))
        (none_first o3 (o4 ∷ o5 ∷ o6 ∷ []) (none_when false (VoterTwice voter) refl)
        (none_first o4 (o5 ∷ o6 ∷ []) (ap (option_map TargetTwice) (no_repeat_found [] targets (apart targets) different))
        (none_first o5 (o6 ∷ []) (ap (option_map (NotNominated voter)) (none_of (λ target. not (nominates snapshot voter target)) targets
        (λ k d l. not_from_true (nominates snapshot voter (get_or targets k d)) (voted k d l))))
        (none_first o6 [] (none_when (has_bad_share (entry_at voter)) (BadShare voter) shares) refl))))),
    members,
  ) where
    targets : List ℕ
    targets = targets_of (entry_at voter)

    o1 : Option Fault
    o1 = when (nat_le (length snapshot.voters) voter) (NoVoter voter)

    o2 : Option Fault
    o2 = unknown_target snapshot (entry_at voter)

    o3 : Option Fault
    o3 = when false (VoterTwice voter)

    o4 : Option Fault
    o4 = repeated_target (entry_at voter)

    o5 : Option Fault
    o5 = unnominated_target snapshot (entry_at voter)

    o6 : Option Fault
    o6 = when (has_bad_share (entry_at voter)) (BadShare voter)

    not_le : (a b : ℕ) → b < a → nat_le a b ≡ false
    not_le a b l = elim (cases_Bool (nat_le a b)) [
      | inl t ↦ absurd (omega (arith, leb-true a b t, l))
      | inr t ↦ t
    ]

    are : targets ≡ map (λ (edge : Edge). edge.target) (kept_at kept voter)
    are = entry_targets voter (stake_at stakes voter) (kept_at kept voter) some

    of_edges : (P : ℕ → Type 0) → ((edge : Edge) → IsOwn voter edge → P edge.target) → All P targets
    of_edges P f = subst (λ (ts : List ℕ). All P ts) (sym are)
        (All-map P (λ (edge : Edge). edge.target) (kept_at kept voter) (λ k d l. f (get_or (kept_at kept voter) k d) (kept_own voter h k d l)))

    members : All (λ target. has weights.committee target ≡ true) targets
    members = of_edges (λ target. has weights.committee target ≡ true) (λ edge is. is.2)

    voted : All (λ target. nominates snapshot voter target ≡ true) targets
    voted = of_edges (λ target. nominates snapshot voter target ≡ true) (λ edge is. is.1)

    different : IsDistinct nat_eq targets
    different = subst (λ (ts : List ℕ). IsDistinct nat_eq ts) (sym are) (targets_distinct (kept_at kept voter)
        (subst (λ (edges : List Edge). IsDistinct same_target edges) (sym (kept_is voter h))
        (chosen_distinct (stake_at stakes voter) (own voter) (own_distinct voter weights.edges feasible.follows.pairs_distinct))))

    apart : (xs : List ℕ) → AllByRecursion (λ x. has [] x ≡ false) xs
    apart [] = tt
    apart (x ∷ xs) = (refl, apart xs)

    shares : has_bad_share (entry_at voter) ≡ false
    shares = ap (λ (edges : List Edge). has_bad_share (entry_of voter (stake_at stakes voter) edges)) (kept_is voter h)
        ∙ good_entry voter (stake_at stakes voter) (own voter) (omega (arith, stake_is voter, (is_voter voter h).stake_above))
        (omega (arith, stake_is voter, feasible.within_stakes voter h))

  -- ## Groups of entries

  entries_good : (count : ℕ) → 1 ≤ count → (voters : List ℕ) → AllByRecursion (λ voter. (0 ≤ voter) × (voter < 0 + length stakes)) voters
      → AllByRecursion (λ voter. nat_eq (count_at voter) count ≡ true) voters
      → AllByRecursion (λ (entry : Entry). IsGood entry × (count_at entry.voter ≡ count)) (map entry_at voters)
  entries_good count some [] below keeps = tt
  entries_good count some (voter ∷ voters) below keeps =
      let is = eqb-true (count_at voter) count keeps.0 in
      ((entry_is_good voter (omega (arith, many, below.0.1)) (omega (arith, some, is)), is), entries_good count some voters below.1 keeps.1)

  entries_differ : (voters : List ℕ) → IsDistinct nat_eq voters → IsDistinct same_voter (map entry_at voters)
  unfolding IsDistinct
  entries_differ [] distinct = tt
  entries_differ (voter ∷ voters) distinct = (others voters distinct.0, entries_differ voters distinct.1)
    where
      others : (voters : List ℕ) → AllByRecursion (λ other. nat_eq voter other ≡ false) voters → AllByRecursion (λ other. same_voter (entry_at voter) other ≡ false) (map entry_at voters)
      others [] apart = tt
      others (other ∷ voters) apart = (apart.0, others voters apart.1)

  abbrev group_at : ℕ → List Entry
  group_at group = entries_with stakes kept (length stakes) (group + 1)

  abbrev groups_from : ℕ → ℕ → List Entry
  groups_from low count = flat_map (λ group. group) (map group_at (range_with_len low count))

  far : (one other : List Entry) (low : ℕ) → AllByRecursion (λ (entry : Entry). IsGood entry × (count_at entry.voter ≡ low + 1)) one
      → AllByRecursion (λ (entry : Entry). IsGood entry × (low + 1 < count_at entry.voter)) other
      → AllByRecursion (λ a. AllByRecursion (λ b. same_voter a b ≡ false) other) one
  far [] other low here there = tt
  far (entry ∷ one) other low here there = (from other there, far one other low here.1 there)
    where
      from : (other : List Entry) → AllByRecursion (λ (entry : Entry). IsGood entry × (low + 1 < count_at entry.voter)) other
          → AllByRecursion (λ b. same_voter entry b ≡ false) other
      from [] there = tt
      from (b ∷ other) there =
          (ne_eqb entry.voter b.voter (λ same. omega (arith, ap count_at same, here.0.1, there.0.1)), from other there.1)

  groups_good : (low count : ℕ) → AllByRecursion (λ (entry : Entry). IsGood entry × (low < count_at entry.voter)) (groups_from low count)
      × IsDistinct same_voter (groups_from low count)
  unfolding IsDistinct
  groups_good low zero = (tt, tt)
  groups_good low (suc count) =
      let keeps : ℕ → Bool = λ voter. nat_eq (count_at voter) (low + 1) in
      let here = entries_good (low + 1) (omega arith) (filter keeps (range_with_len 0 (length stakes))) (range_within keeps 0 (length stakes))
      (kept_pass keeps (range_with_len 0 (length stakes))) in
      let there = groups_good (low + 1) count in (
        all_append (λ (entry : Entry). IsGood entry × (low < count_at entry.voter)) (group_at low) (groups_from (low + 1) count)
            (all_weaker (λ (entry : Entry). IsGood entry × (count_at entry.voter ≡ low + 1)) (λ (entry : Entry). IsGood entry × (low < count_at entry.voter))
            (λ entry is. (is.0, omega (arith, is.1))) (group_at low) here)
            (all_weaker (λ (entry : Entry). IsGood entry × (low + 1 < count_at entry.voter)) (λ (entry : Entry). IsGood entry × (low < count_at entry.voter))
            (λ entry is. (is.0, omega (arith, is.1))) (groups_from (low + 1) count) there.0),
        IsDistinct-append same_voter (group_at low) (groups_from (low + 1) count)
            (entries_differ (filter keeps (range_with_len 0 (length stakes))) (range_distinct keeps 0 (length stakes))) there.1
            (far (group_at low) (groups_from (low + 1) count) low here there.0),
      )

  abbrev all_groups : List (List Entry)
  all_groups = groups_of stakes kept

  named : (before : List Entry) (voter : ℕ) → has (voters_in before) voter ≡ list_any (λ (other : Entry). nat_eq other.voter voter) before
  named [] voter = refl
  named (other ∷ before) voter = ap (λ b. nat_eq other.voter voter || b) (named before voter)

  no_entry_fault : entries_fault snapshot [] (entries_of all_groups) ≡ None
  no_entry_fault = none_bad same_voter IsGood (λ before entry. entry_fault snapshot (has (voters_in before) entry.voter) entry) (entries_fault snapshot)
      (λ _. refl) (λ _ _ _. refl) (λ before entry good new. ap (λ b. entry_fault snapshot b entry) (named before entry.voter ∙ new) ∙ good.0) [] (entries_of all_groups)
      (all_weaker (λ (entry : Entry). IsGood entry × (0 < count_at entry.voter)) (λ (entry : Entry). IsGood entry × (false ≡ false)) (λ entry is. (is.0, refl))
      (entries_of all_groups) (groups_good 0 (groups_for kept)).0) (groups_good 0 (groups_for kept)).1

  -- ## Who is listed

  listed_members : (target : ℕ) → has (listed_in (entries_of all_groups)) target ≡ true → has weights.committee target ≡ true
  listed_members target there = all_has (λ target. has weights.committee target ≡ true) (listed_in (entries_of all_groups)) target
      (All-flat_map (λ target. has weights.committee target ≡ true) targets_of (entries_of all_groups)
      (λ k d l. (All-from_recursion (λ (entry : Entry). IsGood entry × (0 < count_at entry.voter)) (entries_of all_groups) (groups_good 0 (groups_for kept)).0 k d l).0.1)) there

  few_kept : (voter : ℕ) → voter < length snapshot.voters → count_at voter ≤ MOST_NOMINATIONS
  few_kept voter h = omega (arith, ap length (kept_is voter h), few_chosen (stake_at stakes voter) (own voter), few_own voter h)

  many_kept : length kept ≡ length snapshot.voters
  many_kept = length-map (choices_of stakes weights.edges) chosen ∙ (choices_many stakes weights.edges ∙ many)

  all_few : All (λ (edges : List Edge). length edges ≤ WIDE_GROUPS) kept
  all_few k d h = omega (arith, ap length (get_or_default kept k d [] h), few_kept k (omega (arith, h, many_kept)), all_nominations)

  -- the solution, plain or wide, has a group for each number of edges that is kept
  enough : (voter : ℕ) → voter < length snapshot.voters → count_at voter ≤ groups_for kept
  enough voter h = enough_groups kept all_few voter [] (omega (arith, h, many_kept))

  kept_listed : (target : ℕ) → is_kept kept target ≡ true → has (listed_in (entries_of all_groups)) target ≡ true
  kept_listed target there =
      let any = Any-from_list_any (λ edges. list_any (leads_to target) edges) kept there in
      let h : any.0 < length snapshot.voters = omega (arith, any.2, many_kept) in
      of_voter any.0 h (ap (list_any (leads_to target)) (get_or_default kept any.0 [] any.1 any.2 ∙ any.3) ∙ any.4) where
        names : Entry → Bool
        names entry = has (targets_of entry) target

        of_voter : (voter : ℕ) → voter < length snapshot.voters → list_any (leads_to target) (kept_at kept voter) ≡ true → has (listed_in (entries_of all_groups)) target ≡ true
        of_voter voter h leads =
            let some : 1 ≤ count_at voter = nonempty (kept_at kept voter) leads in
            let low = count_at voter - 1 in
            let right : low + 1 ≡ count_at voter = omega (arith, some) in
            let in_entry : names (entry_at voter) ≡ true =
            ap (λ ts. has ts target) (entry_targets voter (stake_at stakes voter) (kept_at kept voter) some)
            ∙ (any_map (λ n. nat_eq n target) (λ (edge : Edge). edge.target) (kept_at kept voter) ∙ leads) in
            let in_group : list_any names (group_at low) ≡ true =
            any_map names entry_at (filter (λ v. nat_eq (count_at v) (low + 1)) (range_with_len 0 (length stakes)))
            ∙ any_filter (λ v. names (entry_at v)) (λ v. nat_eq (count_at v) (low + 1)) (range_with_len 0 (length stakes)) voter
            (has_range 0 (length stakes) voter (omega arith) (omega (arith, h, many))) (eq-eqb (count_at voter) (low + 1) (sym right)) in_entry in
            let short : low < groups_for kept = omega (arith, enough voter h, right) in
            any_flat (λ n. nat_eq n target) targets_of (entries_of all_groups)
            ∙ (any_flat names (λ (group : List Entry). group) all_groups
            ∙ (any_map (λ (group : List Entry). list_any names group) group_at (range_with_len 0 (groups_for kept))
            ∙ list_any_at (λ group. list_any names (group_at group)) (range_with_len 0 (groups_for kept)) low 0 (omega (arith, short, length-range_with_len 0 (groups_for kept)))
            (ap (λ group. list_any names (group_at group)) (get_or-range_with_len 0 (groups_for kept) low 0 short ∙ zero-add low) ∙ in_group)))
          where
            nonempty : (edges : List Edge) → list_any (leads_to target) edges ≡ true → 1 ≤ length edges
            nonempty [] e = absurd (true≢false (sym e))
            nonempty (edge ∷ edges) e = omega arith

  -- where no member is lost, all members are listed, and no one else
  filled : lost_among kept weights.committee ≡ None → size_fault snapshot (expanded snapshot all_groups) ≡ None
  filled none =
      let listed = has (listed_in (entries_of all_groups)) in
      let found = filter listed (range_with_len 0 (length snapshot.targets)) in
      let same : length found ≡ length weights.committee =
      same_length found weights.committee (range_distinct listed 0 (length snapshot.targets)) feasible.follows.members_distinct
      (λ k d h. listed_members (get_or found k d) (All-from_recursion (λ target. listed target ≡ true) found (kept_pass listed (range_with_len 0 (length snapshot.targets))) k d h))
      (λ k d h.
      let member = get_or weights.committee k d in
      filter_has listed (range_with_len 0 (length snapshot.targets)) member
      (has_range 0 (length snapshot.targets) member (omega arith) (omega (arith, feasible.follows.members_in_range k d h)))
      (kept_listed member (none_lost kept weights.committee none k d h))) in
      none_when (not (nat_eq (length found) snapshot.seats)) (WrongSize (length found))
      (not_from_true (nat_eq (length found) snapshot.seats) (eq-eqb (length found) snapshot.seats (same ∙ feasible.seats_filled)))

  groups_expand : lost_among kept weights.committee ≡ None → expand_fault snapshot all_groups ≡ None
  groups_expand none =
      none_first (entries_fault snapshot [] (entries_of all_groups)) (size_fault snapshot (expanded snapshot all_groups) ∷ []) no_entry_fault
      (none_first (size_fault snapshot (expanded snapshot all_groups)) [] (filled none) refl)

  pub packed_expands : (solution : List (List Entry)) → packed stakes weights.committee weights.edges ≡ Ok solution → expand_fault snapshot solution ≡ None
  packed_expands solution is = by (lost_among kept weights.committee) refl is where
    by : (lost : Option ℕ) → lost_among kept weights.committee ≡ lost → packed_or_lost lost all_groups ≡ Ok solution → expand_fault snapshot solution ≡ None
    by None none is = let same : all_groups ≡ solution = cc in subst (λ (s : List (List Entry)). expand_fault snapshot s ≡ None) same (groups_expand none)
    by (Some member) some is = absurd (cc)
