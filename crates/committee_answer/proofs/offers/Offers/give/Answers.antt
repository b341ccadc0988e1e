use Rattle.std.proofs.Common.{arith, ap}
use Rattle.std.proofs.lemmas.List.{get_or_read}
use Rattle.npos_base.specs.declared.figures.Edge.{Edge}
use Rattle.committee_answer.specs.Offers.{edge_at, no_edge}
use Rattle.committee_answer.proofs.OfferLemmas.{amount_within}
use Rattle.committee_answer.proofs.offers.Offers.give.Goals as goal

pub overflow_add-more : goal.overflow_add-more
overflow_add-more c =
    let self = c.args.self.now in
    let edge_is = get_or_read self.edges.items c.args.place c.index-edge.result.now c.requires.place c.index-edge.ensures no_edge in
    omega (
      arith,
      ap (λ (e : Edge). e.amount) edge_is,
      amount_within self c.args.place c.requires.place,
      c.requires.spare,
      c.requires.small.spare (edge_at self c.args.place).target,
    )
