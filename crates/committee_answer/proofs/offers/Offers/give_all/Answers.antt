use Rattle.std.proofs.Common.{arith, ap}
use Rattle.std.proofs.lemmas.List.{get_or_read}
use Rattle.npos_base.specs.declared.figures.Edge.{Edge}
use Rattle.committee_answer.specs.Offers.{at, edge_at, no_edge}
use Rattle.committee_answer.proofs.OfferLemmas.{left_within}
use Rattle.committee_answer.proofs.offers.Offers.give_all.Goals as goal

pub give-requires-clause-rest : goal.give-requires-clause-rest
give-requires-clause-rest c =
    let self = c.args.self.now in
    let voter = (edge_at self c.args.place).voter in
    let edge_is = get_or_read self.edges.items c.args.place c.index-edge.result.now c.requires.place c.index-edge.ensures no_edge in
    let voter_is = ap (λ (e : Edge). e.voter) edge_is in
    let h = c.requires.small.voters c.args.place c.requires.place in
    let left_is = get_or_read self.left.items c.index-edge.result.now.voter c.index-left.result.now (omega (arith, voter_is, h)) c.index-left.ensures 0 in
    omega (arith, c.min-amount.ensures, left_is, ap (at self.left.items) voter_is, left_within self voter c.requires.small h)
