use Rattle.std.proofs.Common.{rules, ◌≡◌, List, filter, IsPermutation, ap, subst, ◌∙◌}
use Rattle.std.proofs.lemmas.List.Sorted.{IsNonDecreasingBy-from_sort_by_key}
use Rattle.npos_base.specs.declared.figures.Edge.{Edge}
use Rattle.npos_base.specs.Edge.{place_of}
use Rattle.election_snapshot.specs.Snapshot.{IsWellFormed}
use Rattle.weight_book.specs.Weights.{IsFeasible}
use Rattle.weight_book.specs.GivenEdges.{gives}
use Rattle.npos_runtime.proofs.Kept.SavedLemmas.{edges_sorted}
use Rattle.npos_runtime.proofs.saved_polls.edge_rows.Goals as goal

pub returns : goal.returns
returns c =
    let elected = c.args.elected.now in
    let sorted = c.sort_unstable_by_key.new.self.items in
    let up = IsNonDecreasingBy-from_sort_by_key place_of _ c.sort_unstable_by_key.ensures.sorted (λ a r q k. search rules) in
    let sound : IsWellFormed elected.snapshot = search rules in
    let feasible : IsFeasible elected.snapshot elected.weights.plain = search rules in
    let given : c.in_ok-edges.edges.items ≡ filter gives elected.weights.plain.edges = c.in_ok-edges.ensures ∙ ap (filter gives) c.edges.ensures in
    let moved : IsPermutation (filter gives elected.weights.plain.edges) sorted =
    subst (λ (edges : List Edge). IsPermutation edges sorted) given c.sort_unstable_by_key.ensures.permutation in
    c.from_vec.ensures ∙ edges_sorted elected.snapshot elected.weights.plain sorted sound feasible.follows moved up
