-- Edges of what voters give: what they sum to by voter and by target, and how they stand.
use Rattle.std.proofs.Common.{◌≡◌, ℕ, zero, suc, ◌+◌, ◌<◌, ◌≤◌, ◌⊎◌, Bool, true, false, cond, nat_eq, nat_lt, List, [], ◌∷◌}
use Rattle.std.proofs.Common.{length, map, filter, reverse, sum_by, IsPermutation, inl, inr, refl, ap, sym, subst, ◌∙◌, arith}
use Rattle.std.specs.List.{flat_map, range_with_len, IsDistinct}
use Rattle.std.specs.List.Sorted.{IsNonDecreasingBy}
use Rattle.std.proofs.lemmas.Bool.{cases_Bool, cases_lt, lt-ltb, le-ltb, eqb-true, true≢false}
use Rattle.std.proofs.lemmas.List.Sums.{sum_by-cons, sum_by-append}
use Rattle.std.proofs.lemmas.List.Elements.{filter-append}
use Rattle.std.proofs.lemmas.List.Concat.{flat_map-cons}
use Rattle.std.proofs.lemmas.List.Sorted.{IsPermutation-reverse, IsPermutation-sym}
use Rattle.std.proofs.lemmas.Map.Keys.{IsDistinct-IsPermutation}
use Rattle.npos_base.specs.declared.figures.Edge.{Edge}
use Rattle.npos_base.specs.Edge.{place_of, same_pair}
use Rattle.election_snapshot.specs.Snapshot.{Snapshot, has, nominates}
use Rattle.weight_book.specs.Weights.{Follows, amount_sum, spent, support}
use Rattle.weight_book.proofs.SumLemmas.{sum_filter-cons, sum_same, eqb_turned}
use Rattle.seat_race.specs.Giving.{edge_along, edges_given}
use Rattle.seat_race.proofs.InLemmas.{In, in_filter, in_flat_map, in_has, in_map, in_permuted, in_range, all_in, from_filter, from_flat_map, from_has, from_map, from_range}
use Rattle.seat_race.proofs.NominatorLemmas.{only_one}
use Rattle.seat_race.proofs.OrderLemmas.{Rises, distinct_by, rises-filter, rises-flat_map, rises-map, rises_sorted, same_key, same_list}

-- ---- sums over lists of this form
sum_of_rows : {X Y : Type 0} (f : Y → ℕ) (p : Y → Bool) (row : X → List Y) (xs : List X)
    → sum_by f (filter p (flat_map row xs)) ≡ sum_by (λ x. sum_by f (filter p (row x))) xs
sum_of_rows f p row [] = refl
sum_of_rows f p row (x ∷ xs) = ap (λ ys. sum_by f (filter p ys)) (flat_map-cons row x xs)
    ∙ ap (sum_by f) (filter-append p (row x) (flat_map row xs))
    ∙ sum_by-append f (filter p (row x)) (filter p (flat_map row xs))
    ∙ ap (λ n. sum_by f (filter p (row x)) + n) (sum_of_rows f p row xs)
    ∙ sym (sum_by-cons (λ z. sum_by f (filter p (row z))) x xs)

-- nothing is lost with the edges of nothing
sum_above : (p : Edge → Bool) (edges : List Edge) → amount_sum (filter p (filter (λ edge. nat_lt 0 edge.amount) edges)) ≡ amount_sum (filter p edges)
sum_above p [] = refl
sum_above p (edge ∷ edges) = elim (cases_lt 0 edge.amount) [
  | inl l ↦ rw (lt-ltb 0 edge.amount l) (
      sum_filter-cons p (λ (e : Edge). e.amount) edge (filter (λ (e : Edge). nat_lt 0 e.amount) edges)
      ∙ ap (λ n. cond (p edge) edge.amount 0 + n) (sum_above p edges)
      ∙ sym (sum_filter-cons p (λ (e : Edge). e.amount) edge edges))
  | inr l ↦ rw (le-ltb 0 edge.amount l) (omega (
    arith,
    sum_above p edges,
    sum_filter-cons p (λ (e : Edge). e.amount) edge edges,
    nothing (p edge) edge.amount l,
  ))
] where
  nothing : (b : Bool) (n : ℕ) → n ≤ 0 → cond b n 0 ≡ 0
  nothing true n l = omega (arith, l)
  nothing false n l = refl

module _ (snapshot : Snapshot) where
  abbrev targets : List ℕ
  targets = range_with_len 0 (length snapshot.targets)

  abbrev voters : List ℕ
  voters = range_with_len 0 (length snapshot.voters)

  module _ (given : ℕ → ℕ → ℕ) where
    abbrev row : ℕ → List Edge
    row voter = map (edge_along given voter) targets

    row_spent : (voter other : ℕ) (numbers : List ℕ) → amount_sum (filter (λ edge. nat_eq edge.voter other) (map (edge_along given voter) numbers))
        ≡ cond (nat_eq voter other) (sum_by (given voter) numbers) 0
    row_spent voter other [] = nothing (nat_eq voter other) where
      nothing : (b : Bool) → zero ≡ cond b zero zero
      nothing true = refl
      nothing false = refl
    row_spent voter other (target ∷ numbers) =
        sum_filter-cons (λ (edge : Edge). nat_eq edge.voter other) (λ (edge : Edge). edge.amount) (edge_along given voter target) (map (edge_along given voter) numbers)
        ∙ ap (λ n. cond (nat_eq voter other) (given voter target) 0 + n) (row_spent voter other numbers)
        ∙ joined (given voter target) (sum_by (given voter) numbers) (nat_eq voter other)
        ∙ ap (λ n. cond (nat_eq voter other) n 0) (sym (sum_by-cons (given voter) target numbers))
      where
        joined : (a b : ℕ) (test : Bool) → cond test a 0 + cond test b 0 ≡ cond test (a + b) 0
        joined a b true = refl
        joined a b false = refl

    row_support : (voter target : ℕ) (numbers : List ℕ) → amount_sum (filter (λ edge. nat_eq edge.target target) (map (edge_along given voter) numbers))
        ≡ sum_by (λ n. cond (nat_eq n target) (given voter n) 0) numbers
    row_support voter target [] = refl
    row_support voter target (n ∷ numbers) =
        sum_filter-cons (λ (edge : Edge). nat_eq edge.target target) (λ (edge : Edge). edge.amount) (edge_along given voter n) (map (edge_along given voter) numbers)
        ∙ ap (λ m. cond (nat_eq n target) (given voter n) 0 + m) (row_support voter target numbers)
        ∙ sym (sum_by-cons (λ m. cond (nat_eq m target) (given voter m) 0) n numbers)

    pub spent_is : (voter : ℕ) → voter < length snapshot.voters → spent (edges_given snapshot given) voter ≡ sum_by (given voter) targets
    spent_is voter h = sum_above (λ edge. nat_eq edge.voter voter) (flat_map row voters)
        ∙ sum_of_rows (λ (edge : Edge). edge.amount) (λ (edge : Edge). nat_eq edge.voter voter) row voters
        ∙ sum_same (λ n. amount_sum (filter (λ (edge : Edge). nat_eq edge.voter voter) (row n))) (λ n. cond (nat_eq n voter) (sum_by (given n) targets) 0)
        (λ n. row_spent n voter targets) voters
        ∙ only_one (λ n. sum_by (given n) targets) voter 0 (length snapshot.voters) (omega arith) (omega (arith, h))

    pub support_is : (target : ℕ) → target < length snapshot.targets → support (edges_given snapshot given) target ≡ sum_by (λ voter. given voter target) voters
    support_is target h = sum_above (λ edge. nat_eq edge.target target) (flat_map row voters)
        ∙ sum_of_rows (λ (edge : Edge). edge.amount) (λ (edge : Edge). nat_eq edge.target target) row voters
        ∙ sum_same (λ n. amount_sum (filter (λ (edge : Edge). nat_eq edge.target target) (row n))) (λ n. given n target)
        (λ n. row_support n target targets ∙ only_one (given n) target 0 (length snapshot.targets) (omega arith) (omega (arith, h))) voters

    pub record IsGiven (edge : Edge) : Type 0 where
      pub voter_in_range : edge.voter < length snapshot.voters
      pub target_in_range : edge.target < length snapshot.targets
      pub more : 0 < edge.amount
      pub is : edge.amount ≡ given edge.voter edge.target

    pub edge_is : (edge : Edge) → In (edges_given snapshot given) edge → IsGiven edge
    edge_is edge h =
        let kept = from_filter (λ (e : Edge). nat_lt 0 e.amount) (flat_map row voters) edge h in
        let by_voter = from_flat_map row voters edge kept.0 in
        let by_target = from_map (edge_along given by_voter.0) targets edge by_voter.2 in
        along by_voter.0 by_target.0 edge (from_range 0 (length snapshot.voters) by_voter.0 by_voter.1).1 (from_range 0 (length snapshot.targets) by_target.0 by_target.1).1 by_target.2 kept.1
      where
        some : (n : ℕ) → nat_lt 0 n ≡ true → 0 < n
        some zero p = absurd (true≢false (sym p))
        some (suc n) p = omega arith

        along : (voter target : ℕ) (edge : Edge) → voter < 0 + length snapshot.voters → target < 0 + length snapshot.targets → edge_along given voter target ≡ edge
            → nat_lt 0 edge.amount ≡ true → IsGiven edge
        along voter target edge v t e p = record {
          voter_in_range = omega (arith, v, ap (λ (e : Edge). e.voter) e);
          target_in_range = omega (arith, t, ap (λ (e : Edge). e.target) e);
          more = some edge.amount p;
          is = subst (λ (e : Edge). e.amount ≡ given e.voter e.target) e refl;
        }

    -- ---- how they stand
    pub edges_rise : length snapshot.targets ≤ 65536 → Rises place_of (edges_given snapshot given)
    edges_rise few = rises-filter place_of (λ (e : Edge). nat_lt 0 e.amount) (flat_map row voters) (rises-flat_map place_of row
        (λ voter. rises-map place_of (edge_along given voter) (λ a b l. omega (arith, l)) 0 (length snapshot.targets)) below 0 (length snapshot.voters))
      where
        below : (a b : ℕ) (x y : Edge) → a < b → In (row a) x → In (row b) y → place_of x < place_of y
        below a b x y l i j =
            let from = from_map (edge_along given a) targets x i in
            let to = from_map (edge_along given b) targets y j in
            let low = (from_range 0 (length snapshot.targets) from.0 from.1).1 in
            omega (
              arith,
              l,
              low,
              few,
              ap (λ (e : Edge). e.voter) from.2,
              ap (λ (e : Edge). e.target) from.2,
              ap (λ (e : Edge). e.voter) to.2,
            )

    -- ---- the same edges, made in another order
    to_given : (edge : Edge) → IsGiven edge → In (edges_given snapshot given) edge
    to_given edge is = in_filter (λ (e : Edge). nat_lt 0 e.amount) (flat_map row voters) edge
        (in_flat_map row voters edge.voter edge (in_range 0 (length snapshot.voters) edge.voter (omega arith) (omega (arith, is.voter_in_range))) there)
        (lt-ltb 0 edge.amount is.more)
      where
        there : In (row edge.voter) edge
        there = subst (λ n. In (row edge.voter) (record { voter = edge.voter; target = edge.target; amount = n })) (sym is.is)
            (in_map (edge_along given edge.voter) targets edge.target (in_range 0 (length snapshot.targets) edge.target (omega arith) (omega (arith, is.target_in_range))))

    pub sorted_given : length snapshot.targets ≤ 65536 → (made edges : List Edge) → IsDistinct (same_key place_of) made → ((edge : Edge) → In made edge → IsGiven edge)
        → ((edge : Edge) → IsGiven edge → In made edge) → IsPermutation made edges → IsNonDecreasingBy place_of edges → edges ≡ edges_given snapshot given
    sorted_given few made edges distinct each all moved up = same_list place_of edges (edges_given snapshot given)
        (rises_sorted place_of edges up (IsDistinct-IsPermutation (same_key place_of) (λ a b. eqb_turned (place_of a) (place_of b)) made edges moved distinct))
        (edges_rise few)
        (λ edge h. to_given edge (each edge (in_permuted edges made edge (IsPermutation-sym made edges moved) h)))
        (λ edge h. in_permuted made edges edge moved (all edge (edge_is edge h)))

    -- ---- they follow, where voters give to picks that they nominate
    module _ (picks : List ℕ) (below : (target : ℕ) → In picks target → target < length snapshot.targets) (distinct : IsDistinct nat_eq picks)
        (gives : (voter target : ℕ) → 0 < given voter target → (has picks target ≡ true) × (nominates snapshot voter target ≡ true)) where
      abbrev members : List ℕ
      members = reverse picks

      pub is_member : (target : ℕ) → In picks target → has members target ≡ true
      is_member target h = in_has members target (in_permuted picks members target (IsPermutation-reverse picks) h)

      pub given_follows : length snapshot.targets ≤ 65536 → Follows snapshot (record { committee = reverse picks; edges = edges_given snapshot given })
      given_follows few = record {
        members_in_range = all_in (λ member. member < length snapshot.targets) members
            (λ member h. below member (in_permuted members picks member (IsPermutation-sym picks members (IsPermutation-reverse picks)) h));
        members_distinct = IsDistinct-IsPermutation nat_eq eqb_turned picks members (IsPermutation-reverse picks) distinct;
        pairs_distinct = distinct_by place_of same_pair apart (edges_given snapshot given) (edges_rise few);
        voters_in_range = all_in (λ edge. edge.voter < length snapshot.voters) (edges_given snapshot given) (λ edge h. (edge_is edge h).voter_in_range);
        to_members = all_in (λ edge. has members edge.target ≡ true) (edges_given snapshot given) (λ edge h. is_member edge.target (from_has picks edge.target (gave edge h).0));
        nominated = all_in (λ edge. nominates snapshot edge.voter edge.target ≡ true) (edges_given snapshot given) (λ edge h. (gave edge h).1);
      } where
        gave : (edge : Edge) → In (edges_given snapshot given) edge → (has picks edge.target ≡ true) × (nominates snapshot edge.voter edge.target ≡ true)
        gave edge h = let is = edge_is edge h in gives edge.voter edge.target (omega (arith, is.more, is.is))

        apart : (a b : Edge) → place_of a < place_of b → same_pair a b ≡ false
        apart a b l = at (cases_Bool (nat_eq a.voter b.voter)) (cases_Bool (nat_eq a.target b.target)) where
          at : (nat_eq a.voter b.voter ≡ true) ⊎ (nat_eq a.voter b.voter ≡ false) → (nat_eq a.target b.target ≡ true) ⊎ (nat_eq a.target b.target ≡ false) → same_pair a b ≡ false
          at (inr f) _ = rw f refl
          at (inl t) (inr f) = rw (t, f) refl
          at (inl t) (inl s) = absurd (omega (arith, l, eqb-true a.voter b.voter t, eqb-true a.target b.target s))
