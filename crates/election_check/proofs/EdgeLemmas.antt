-- An edge with a fault stops the check, and one without goes on.
use Rattle.std.proofs.Common.{◌≡◌, ℕ, ◌+◌, ◌*◌, ◌<◌, Bool, true, false, nat_eq, List, [], length, take, get_or, set, slice_index, slice_index_or, Some, Err, refl, sym, ap, ◌∙◌}
use Rattle.std.proofs.lemmas.Bool.{lt-leb, eq-eqb}
use Rattle.std.proofs.lemmas.List.{length-set}
use Rattle.std.proofs.lemmas.List.Folds.{list_any_at}
use Rattle.npos_base.specs.declared.figures.Edge.{Edge}
use Rattle.npos_base.specs.declared.limits.TheConstants.{MOST_NOMINATIONS}
use Rattle.election_snapshot.specs.Snapshot.{Snapshot, IsWellFormed, has, nominates, votes_of}
use Rattle.weight_book.specs.Weights.{Weights, same_pair}
use Rattle.election_check.specs.declared.fault.Fault.{Fault}
use Rattle.election_check.specs.declared.fault.Fault.TheVariants.{TargetTwice}
use Rattle.election_check.specs.First.{answer_of}
use Rattle.election_check.specs.Plain.{edge_fault, edges_fault}
use Rattle.election_check.proofs.FirstLemmas.{past_item, stops_at}
use Rattle.election_check.proofs.StepLemmas.{AreEdges, has_pair, pairs_more}

module _ (snapshot : Snapshot) (weights : Weights) (table : List Bool) (i : ℕ) (d : Edge) (h : i < length weights.edges) (so_far : AreEdges snapshot weights i table)
    (in_range : (get_or weights.edges i d).voter < length snapshot.voters) where
  abbrev edge : Edge
  edge = get_or weights.edges i d

  stops : (v : Fault) → edge_fault snapshot weights.committee (take i weights.edges) edge ≡ Some v → Err v ≡ answer_of (edges_fault snapshot weights.committee [] weights.edges)
  stops v e = sym (ap answer_of (stops_at same_pair (λ _. Unit {0}) (edge_fault snapshot weights.committee) (edges_fault snapshot weights.committee) (λ _. refl) (λ _ _ _. refl)
      weights.edges i d v h e so_far.faults))

  module _ (formed : IsWellFormed snapshot) (member : has weights.committee edge.target ≡ true) (place : ℕ) (in_votes : place < length (votes_of snapshot edge.voter))
      (is : slice_index (votes_of snapshot edge.voter) place ≡ edge.target) where
    nominated : nominates snapshot edge.voter edge.target ≡ true
    nominated = list_any_at (λ vote. nat_eq vote edge.target) (votes_of snapshot edge.voter) place 0 in_votes (eq-eqb (slice_index (votes_of snapshot edge.voter) place) edge.target is)

    pair : slice_index_or table (edge.voter * MOST_NOMINATIONS + place) false ≡ has_pair (take i weights.edges) edge.voter edge.target
    pair = so_far.pairs edge.voter place in_range in_votes ∙ ap (has_pair (take i weights.edges) edge.voter) is

    pub twice : slice_index_or table (edge.voter * MOST_NOMINATIONS + place) false ≡ true
        → Err (TargetTwice edge.target) ≡ answer_of (edges_fault snapshot weights.committee [] weights.edges)
    twice e = let again : has_pair (take i weights.edges) edge.voter edge.target ≡ true = sym pair ∙ e in
        stops (TargetTwice edge.target) (rw (lt-leb (length snapshot.voters) edge.voter in_range, member, nominated, again) refl)

    pub goes_on : slice_index_or table (edge.voter * MOST_NOMINATIONS + place) false ≡ false → AreEdges snapshot weights (i + 1) (set table (edge.voter * MOST_NOMINATIONS + place) true)
    goes_on e = let new : has_pair (take i weights.edges) edge.voter edge.target ≡ false = sym pair ∙ e in record {
      faults = past_item same_pair (λ _. Unit {0}) (edge_fault snapshot weights.committee) (edges_fault snapshot weights.committee) (λ _. refl) (λ _ _ _. refl)
          weights.edges i d h (rw (lt-leb (length snapshot.voters) edge.voter in_range, member, nominated, new) refl) so_far.faults;
      pairs = pairs_more snapshot formed weights.edges i d place h in_range in_votes is table so_far.size so_far.pairs;
      size = length-set table (edge.voter * MOST_NOMINATIONS + place) true ∙ so_far.size;
    }
