-- A check finds no fault exactly where the weights pass.
use Rattle.std.proofs.Common.{◌≡◌, ℕ, ◌<◌, ◌≤◌, Bool, true, false, not, nat_eq, nat_le, List, [], ◌∷◌, length, Option, Some, None, option_map, find, All, refl}
use Rattle.std.specs.List.{IsDistinct, list_any, range_with_len}
use Rattle.std.proofs.lemmas.List.Elements.{All-from_recursion, recursion_from_All}
use Rattle.std.proofs.lemmas.Bool.{ltb-false, leb-false, le-ltb, lt-leb, eqb-true, eq-eqb, not-false, not_from_true, not_from_false, and_left, and_right, and_from, both_ways, false_from_ne_true}
use Rattle.npos_base.specs.declared.figures.Edge.{Edge}
use Rattle.election_snapshot.specs.Snapshot.{Snapshot, has, nominates, stake_of, threshold}
use Rattle.weight_book.specs.Weights.{Weights, Follows, IsFeasible, same_pair, spent}
use Rattle.weight_book.specs.Passing.{Passes, NoneOutweighs}
use Rattle.election_check.specs.declared.fault.Fault.{Fault}
use Rattle.election_check.specs.declared.fault.Fault.TheVariants.{NoVoter, NoTarget, TargetTwice, NotNominated, WrongSize, Outweighed, Overspent}
use Rattle.election_check.specs.First.{when, first_of}
use Rattle.election_check.specs.Steps.{size_fault, outweighed, outweighs, prescore_of}
use Rattle.election_check.specs.Plain.{member_fault, members_fault, edge_fault, edges_fault, overspends, overspent, plain_fault}
use Rattle.election_check.proofs.FirstLemmas.{when_none, none_when, first_none, all_good, none_bad, none_found, all_fail}

pub mapped_none : (fault : ℕ → Fault) (found : Option ℕ) → option_map fault found ≡ None → found ≡ None
mapped_none fault None e = refl
mapped_none fault (Some n) e = absurd (cc)

none_mapped : (fault : ℕ → Fault) (found : Option ℕ) → found ≡ None → option_map fault found ≡ None
none_mapped fault found e = rw e refl

module _ (snapshot : Snapshot) where
  -- a member, but for the members before it
  abbrev pub IsMember : ℕ → Type 0
  IsMember member = member < length snapshot.targets

  member_good : (before : List ℕ) (member : ℕ) → member_fault snapshot before member ≡ None → IsMember member × (has before member ≡ false)
  member_good before member e =
      let (range, rest) = first_none (when (nat_le (length snapshot.targets) member) (NoTarget member)) (when (has before member) (TargetTwice member) ∷ []) e in
      let (new, _) = first_none (when (has before member) (TargetTwice member)) [] rest in
      (leb-false (length snapshot.targets) member (when_none (nat_le (length snapshot.targets) member) (NoTarget member) range), when_none (has before member) (TargetTwice member) new)

  member_fine : (before : List ℕ) (member : ℕ) → IsMember member → has before member ≡ false → member_fault snapshot before member ≡ None
  member_fine before member range new = rw (lt-leb (length snapshot.targets) member range, new) refl

  members_good : (members : List ℕ) → members_fault snapshot [] members ≡ None → All IsMember members × IsDistinct nat_eq members
  members_good members e =
      let (each, distinct) = all_good nat_eq IsMember (member_fault snapshot) (members_fault snapshot) (λ _. refl) (λ _ _ _. refl) member_good [] members e in
      (λ k d h. (All-from_recursion (λ member. IsMember member × (has [] member ≡ false)) members each k d h).0, distinct)

  members_fine : (members : List ℕ) → All IsMember members → IsDistinct nat_eq members → members_fault snapshot [] members ≡ None
  members_fine members each distinct = none_bad nat_eq IsMember (member_fault snapshot) (members_fault snapshot) (λ _. refl) (λ _ _ _. refl) member_fine [] members
      (recursion_from_All (λ member. IsMember member × (has [] member ≡ false)) members (λ k d h. (each k d h, refl))) distinct

  module _ (committee : List ℕ) where
    -- an edge, but for the edges before it
    record IsEdge (edge : Edge) : Type 0 where
      voter : edge.voter < length snapshot.voters
      member : has committee edge.target ≡ true
      nominated : nominates snapshot edge.voter edge.target ≡ true

    edge_good : (before : List Edge) (edge : Edge) → edge_fault snapshot committee before edge ≡ None
        → IsEdge edge × (list_any (λ other. same_pair other edge) before ≡ false)
    edge_good before edge e =
        let o1 = when (nat_le (length snapshot.voters) edge.voter) (NoVoter edge.voter) in
        let o2 = when (not (has committee edge.target)) (NoTarget edge.target) in
        let o3 = when (not (nominates snapshot edge.voter edge.target)) (NotNominated edge.voter edge.target) in
        let o4 = when (list_any (λ other. same_pair other edge) before) (TargetTwice edge.target) in
        let (range, e1) = first_none o1 (o2 ∷ o3 ∷ o4 ∷ []) e in
        let (member, e2) = first_none o2 (o3 ∷ o4 ∷ []) e1 in
        let (nominated, e3) = first_none o3 (o4 ∷ []) e2 in
        let (new, _) = first_none o4 [] e3 in (
          record {
            voter = leb-false (length snapshot.voters) edge.voter (when_none (nat_le (length snapshot.voters) edge.voter) (NoVoter edge.voter) range);
            member = not-false (has committee edge.target) (when_none (not (has committee edge.target)) (NoTarget edge.target) member);
            nominated = not-false (nominates snapshot edge.voter edge.target) (when_none (not (nominates snapshot edge.voter edge.target)) (NotNominated edge.voter edge.target) nominated);
          },
          when_none (list_any (λ other. same_pair other edge) before) (TargetTwice edge.target) new,
        )

    edge_fine : (before : List Edge) (edge : Edge) → IsEdge edge → list_any (λ other. same_pair other edge) before ≡ false → edge_fault snapshot committee before edge ≡ None
    edge_fine before edge good new = rw (lt-leb (length snapshot.voters) edge.voter good.voter, good.member, good.nominated, new) refl

    edges_good : (edges : List Edge) → edges_fault snapshot committee [] edges ≡ None → All IsEdge edges × IsDistinct same_pair edges
    edges_good edges e =
        let (each, distinct) = all_good same_pair IsEdge (edge_fault snapshot committee) (edges_fault snapshot committee) (λ _. refl) (λ _ _ _. refl) edge_good [] edges e in
        (λ k d h. (All-from_recursion (λ edge. IsEdge edge × (list_any (λ other. same_pair other edge) [] ≡ false)) edges each k d h).0, distinct)

    edges_fine : (edges : List Edge) → All IsEdge edges → IsDistinct same_pair edges → edges_fault snapshot committee [] edges ≡ None
    edges_fine edges each distinct = none_bad same_pair IsEdge (edge_fault snapshot committee) (edges_fault snapshot committee) (λ _. refl) (λ _ _ _. refl) edge_fine [] edges
        (recursion_from_All (λ edge. IsEdge edge × (list_any (λ other. same_pair other edge) [] ≡ false)) edges (λ k d h. (each k d h, refl))) distinct

  pub follows : (weights : Weights) → members_fault snapshot [] weights.committee ≡ None → edges_fault snapshot weights.committee [] weights.edges ≡ None → Follows snapshot weights
  follows weights members edges =
      let (in_range, members_distinct) = members_good weights.committee members in
      let (each, pairs_distinct) = edges_good weights.committee weights.edges edges in
      record {
        members_in_range = in_range;
        members_distinct = members_distinct;
        pairs_distinct = pairs_distinct;
        voters_in_range = λ k d h. (each k d h).voter;
        to_members = λ k d h. (each k d h).member;
        nominated = λ k d h. (each k d h).nominated;
      }

  within : (edges : List Edge) → overspent snapshot edges ≡ None → (voter : ℕ) → voter < length snapshot.voters → spent edges voter ≤ stake_of snapshot voter
  within edges e voter h = ltb-false (stake_of snapshot voter) (spent edges voter)
      (all_fail (overspends snapshot edges) (length snapshot.voters) voter (mapped_none Overspent (find (overspends snapshot edges) (range_with_len 0 (length snapshot.voters))) e) h)

  sized : (weights : Weights) → size_fault snapshot weights ≡ None → length weights.committee ≡ snapshot.seats
  sized weights e = eqb-true (length weights.committee) snapshot.seats
      (not-false (nat_eq (length weights.committee) snapshot.seats)
      (when_none (not (nat_eq (length weights.committee) snapshot.seats)) (WrongSize (length weights.committee)) e))

  pub feasible : (weights : Weights) → members_fault snapshot [] weights.committee ≡ None → edges_fault snapshot weights.committee [] weights.edges ≡ None
      → overspent snapshot weights.edges ≡ None → size_fault snapshot weights ≡ None → IsFeasible snapshot weights
  feasible weights members edges spending size = record {
    follows = follows weights members edges;
    seats_filled = sized weights size;
    within_stakes = within weights.edges spending;
  }

  pub none_outweighs : (weights : Weights) → outweighed snapshot weights ≡ None → NoneOutweighs snapshot weights
  none_outweighs weights e target range outside =
      let fails = all_fail (outweighs snapshot weights) (length snapshot.targets) target
      (mapped_none (λ n. Outweighed n (prescore_of snapshot weights n)) (find (outweighs snapshot weights)
      (range_with_len 0 (length snapshot.targets))) e) range in
      leb-false (threshold snapshot) (prescore_of snapshot weights target)
      (false_from_ne_true (nat_le (threshold snapshot) (prescore_of snapshot weights target))
      (λ t. both_ways (outweighs snapshot weights target) fails (and_from (not (has weights.committee target))
      (nat_le (threshold snapshot) (prescore_of snapshot weights target))
      (not_from_false (has weights.committee target) outside) t)))

  outweighed_none : (weights : Weights) → NoneOutweighs snapshot weights → outweighed snapshot weights ≡ None
  outweighed_none weights none = none_mapped (λ n. Outweighed n (prescore_of snapshot weights n))
      (find (outweighs snapshot weights) (range_with_len 0 (length snapshot.targets)))
      (none_found (outweighs snapshot weights) (length snapshot.targets)
      (λ target h. at target h (has weights.committee target) refl)) where
        at : (target : ℕ) → target < length snapshot.targets → (b : Bool) → has weights.committee target ≡ b → outweighs snapshot weights target ≡ false
        at target h true e = and_left (not (has weights.committee target)) (nat_le (threshold snapshot) (prescore_of snapshot weights target)) (not_from_true (has weights.committee target) e)
        at target h false e = and_right (not (has weights.committee target))
            (nat_le (threshold snapshot) (prescore_of snapshot weights target))
            (lt-leb (threshold snapshot) (prescore_of snapshot weights target) (none target h e))

  pub passes : (weights : Weights) → plain_fault snapshot weights ≡ None → Passes snapshot weights
  passes weights e =
      let o1 = members_fault snapshot [] weights.committee in
      let o2 = edges_fault snapshot weights.committee [] weights.edges in
      let o3 = overspent snapshot weights.edges in
      let o4 = size_fault snapshot weights in
      let o5 = outweighed snapshot weights in
      let (members, e1) = first_none o1 (o2 ∷ o3 ∷ o4 ∷ o5 ∷ []) e in
      let (edges, e2) = first_none o2 (o3 ∷ o4 ∷ o5 ∷ []) e1 in
      let (spending, e3) = first_none o3 (o4 ∷ o5 ∷ []) e2 in
      let (size, e4) = first_none o4 (o5 ∷ []) e3 in
      let (last, _) = first_none o5 [] e4 in
      record {
        feasible = feasible weights members edges spending size;
        none_outweighs = none_outweighs weights last;
      }

  all_none : (a b c d f : Option Fault) → a ≡ None → b ≡ None → c ≡ None → d ≡ None → f ≡ None → first_of (a ∷ b ∷ c ∷ d ∷ f ∷ []) ≡ None
  all_none a b c d f p q r s t = rw (p, q, r, s, t) refl

  pub no_plain_fault : (weights : Weights) → Passes snapshot weights → plain_fault snapshot weights ≡ None
  no_plain_fault weights passing =
      let good = passing.feasible.follows in
      all_none (members_fault snapshot [] weights.committee) (edges_fault snapshot weights.committee [] weights.edges)
      (overspent snapshot weights.edges) (size_fault snapshot weights) (outweighed snapshot weights)
      (members_fine weights.committee good.members_in_range good.members_distinct)
      (edges_fine weights.committee weights.edges (λ k d h. record { voter = good.voters_in_range k d h; member = good.to_members k d h; nominated = good.nominated k d h }) good.pairs_distinct)
      (none_mapped Overspent (find (overspends snapshot weights.edges) (range_with_len 0 (length snapshot.voters)))
      (none_found (overspends snapshot weights.edges) (length snapshot.voters)
      (λ voter h. le-ltb (stake_of snapshot voter) (spent weights.edges voter) (passing.feasible.within_stakes voter h))))
      (none_when (not (nat_eq (length weights.committee) snapshot.seats)) (WrongSize (length weights.committee))
      (not_from_true (nat_eq (length weights.committee) snapshot.seats) (eq-eqb (length weights.committee) snapshot.seats passing.feasible.seats_filled)))
      (outweighed_none weights passing.none_outweighs)
