use Rattle.std.proofs.Common.{arith, ap, ◌∙◌}
use Rattle.std.proofs.lemmas.List.{get_or_read}
use Rattle.npos_base.specs.declared.figures.Edge.{Edge}
use Rattle.committee_answer.specs.Offers.{at, edge_at, no_edge}
use Rattle.committee_answer.proofs.OfferLemmas.{amount_within}
use Rattle.committee_answer.proofs.offers.Offers.take_back.Goals as goal

pub overflow_add-spare : goal.overflow_add-spare
overflow_add-spare c =
    let self = c.args.self.now in
    let edge = edge_at self c.args.place in
    let edge_is = get_or_read self.edges.items c.args.place c.index-edge.result.now c.requires.place c.index-edge.ensures no_edge in
    let target_is = c.from-2.ensures ∙ ap (λ (e : Edge). e.target) edge_is in
    let spare_is = get_or_read self.spare.items c.from-2.result c.index-2.result.now
    (omega (arith, target_is, c.requires.small.targets c.args.place c.requires.place)) c.index-2.ensures 0 in
    omega (arith, spare_is, ap (at self.spare.items) target_is, amount_within self c.args.place c.requires.place, c.requires.given, c.requires.small.spare edge.target)
