-- Whether weights can be packed, by tests that compute: what is asked of the worked weights is true.
use Rattle.std.proofs.Common.{◌≡◌, ℕ, ◌<◌, ◌≤◌, ◌&&◌, Bool, true, false, not, nat_eq, nat_lt, nat_le, All, List, [], ◌∷◌, length, get_or, sum_by, refl, sym, ◌∙◌, subst, arith, true≢false}
use Rattle.std.specs.List.{AllByRecursion, IsDistinct, list_all, list_any, range_with_len}
use Rattle.std.proofs.Math.Nat.{zero-add}
use Rattle.std.proofs.lemmas.List.Elements.{All-cons, All-get_or}
use Rattle.std.proofs.lemmas.List.FromFn.{length-range_with_len, get_or-range_with_len}
use Rattle.std.proofs.lemmas.Map.Keys.{IsDistinct-cons}
use Rattle.std.proofs.lemmas.Bool.Decides.{nat_tests}
use Rattle.std.proofs.lemmas.Bool.{and_parts}
use Rattle.npos_base.specs.declared.figures.Edge.{Edge}
use Rattle.npos_base.specs.declared.limits.TheConstants.{MOST_NOMINATIONS, MOST_VOTERS}
use Rattle.npos_base.specs.Edge.{edges_from}
use Rattle.compact_solution.specs.Packing.{IsPackable, stake_at, same_pair}
use Rattle.compact_solution.proofs.FitLemmas.{short_filter}

all_from : {X : Type 0} (P : X → Type 0) (test : X → Bool) → ((x : X) → test x ≡ true → P x) → (xs : List X) → list_all test xs ≡ true → All P xs
all_from P test each [] e = λ k d lt. absurd (omega (arith, lt))
all_from P test each (x ∷ xs) e =
    let parts = and_parts (test x) (list_all test xs) e in All-cons P x xs (each x parts.0) (all_from P test each xs parts.1)

apart_from : (edge : Edge) (edges : List Edge) → list_all (λ other. not (same_pair edge other)) edges ≡ true → AllByRecursion (λ other. same_pair edge other ≡ false) edges
apart_from edge [] e = tt
apart_from edge (other ∷ edges) e =
    let parts = and_parts (not (same_pair edge other)) (list_all (λ other. not (same_pair edge other)) edges) e in
    (no (same_pair edge other) parts.0, apart_from edge edges parts.1) where
      no : (b : Bool) → not b ≡ true → b ≡ false
      no true e = absurd (true≢false (sym e))
      no false e = refl

abbrev pub are_distinct : List Edge → Bool
are_distinct [] = true
are_distinct (edge ∷ edges) = list_all (λ other. not (same_pair edge other)) edges && are_distinct edges

distinct_from : (edges : List Edge) → are_distinct edges ≡ true → IsDistinct same_pair edges
unfolding IsDistinct
distinct_from [] e = tt
distinct_from (edge ∷ edges) e =
    let parts = and_parts (list_all (λ other. not (same_pair edge other)) edges) (are_distinct edges) e in
    IsDistinct-cons same_pair edge edges (apart_from edge edges parts.0) (distinct_from edges parts.1)

abbrev pub has_stake : List ℕ → List Edge → ℕ → Bool
has_stake stakes edges voter = nat_le (sum_by (λ edge. edge.amount) (edges_from edges voter)) (stake_at stakes voter)

abbrev pub is_packable : List ℕ → List ℕ → List Edge → Bool
is_packable stakes committee edges =
    nat_le (length stakes) MOST_VOTERS && (list_all (λ edge. nat_lt edge.voter (length stakes)) edges && (are_distinct edges
    && (list_all (λ edge. list_any (λ member. nat_eq member edge.target) committee) edges && (list_all (λ edge. nat_lt 0 edge.amount) edges
    && (nat_le (length edges) MOST_NOMINATIONS && list_all (has_stake stakes edges) (range_with_len 0 (length stakes)))))))

pub packable : (stakes committee : List ℕ) (edges : List Edge) → is_packable stakes committee edges ≡ true → IsPackable stakes committee edges
packable stakes committee edges e =
    let a = and_parts (nat_le (length stakes) MOST_VOTERS) _ e in
    let b = and_parts (list_all (λ edge. nat_lt edge.voter (length stakes)) edges) _ a.1 in
    let c = and_parts (are_distinct edges) _ b.1 in
    let d = and_parts (list_all (λ edge. list_any (λ member. nat_eq member edge.target) committee) edges) _ c.1 in
    let f = and_parts (list_all (λ edge. nat_lt 0 edge.amount) edges) _ d.1 in
    let g = and_parts (nat_le (length edges) MOST_NOMINATIONS) _ f.1 in
    let few : length edges ≤ MOST_NOMINATIONS = grind (arith, nat_tests, g.0) in
    record {
      few_voters = grind (arith, nat_tests, a.0);
      voters_in_range = all_from (λ (edge : Edge). edge.voter < length stakes) (λ edge. nat_lt edge.voter (length stakes)) (λ edge e. grind (arith, nat_tests, e)) edges b.0;
      pairs_distinct = distinct_from edges c.0;
      to_members = all_from (λ (edge : Edge). list_any (λ member. nat_eq member edge.target) committee
          ≡ true) (λ edge. list_any (λ member. nat_eq member edge.target) committee) (λ edge e. e) edges d.0;
      above = all_from (λ (edge : Edge). 0 < edge.amount) (λ edge. nat_lt 0 edge.amount) (λ edge e. grind (arith, nat_tests, e)) edges f.0;
      few_edges = λ voter. omega (arith, few, short_filter (λ (edge : Edge). nat_eq edge.voter voter) edges);
      within = λ voter h. within_at voter h (all_from (λ (voter : ℕ). sum_by (λ edge. edge.amount)
          (edges_from edges voter) ≤ stake_at stakes voter) (has_stake stakes edges)
          (λ voter e. grind (arith, nat_tests, e)) (range_with_len 0 (length stakes)) g.1);
    } where
      within_at : (voter : ℕ) → voter < length stakes → All (λ (voter : ℕ). sum_by (λ edge. edge.amount) (edges_from edges voter) ≤ stake_at stakes voter) (range_with_len 0 (length stakes))
          → sum_by (λ edge. edge.amount) (edges_from edges voter) ≤ stake_at stakes voter
      within_at voter h all =
          let at : get_or (range_with_len 0 (length stakes)) voter 0 ≡ voter = get_or-range_with_len 0 (length stakes) voter 0 h ∙ zero-add voter in
          subst (λ (n : ℕ). sum_by (λ edge. edge.amount) (edges_from edges n) ≤ stake_at stakes n) at
          (All-get_or (λ (voter : ℕ). sum_by (λ edge. edge.amount) (edges_from edges voter) ≤ stake_at stakes voter)
          (range_with_len 0 (length stakes)) voter 0 (omega (arith, h, length-range_with_len 0 (length stakes)))
          all)
