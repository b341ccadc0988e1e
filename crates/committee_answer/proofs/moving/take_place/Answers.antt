use Rattle.std.proofs.Common.{ap, sym, ◌∙◌}
use Rattle.std.proofs.lemmas.List.{get_or_read}
use Rattle.npos_base.specs.declared.figures.Edge.{Edge}
use Rattle.committee_answer.specs.Offers.{no_edge}
use Rattle.committee_answer.proofs.moving.take_place.Goals as goal

pub hand_over-requires-clause-same : goal.hand_over-requires-clause-same
hand_over-requires-clause-same c =
    let edges = c.args.offers.now.edges.items in
    let edge_is = get_or_read edges c.args.place c.index-edge.result.now c.requires.place c.index-edge.ensures no_edge in
    let other_is = get_or_read edges c.args.back c.index-other.result.now c.requires.back c.index-other.ensures no_edge in
    sym (ap (λ (e : Edge). e.target) other_is) ∙ c.if-other-edge.false ∙ ap (λ (e : Edge). e.target) edge_is
