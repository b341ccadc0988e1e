use Rattle.std.proofs.Common.{arith, ap}
use Rattle.std.proofs.lemmas.List.{get_or_read}
use Rattle.npos_base.specs.declared.figures.Edge.{Edge}
use Rattle.committee_answer.specs.Offers.{at, no_edge}
use Rattle.committee_answer.proofs.OfferLemmas.{moved_then}
use Rattle.committee_answer.proofs.HandLemmas.{same_spare, others_no_less, got_some, left_there, spare_there}
use Rattle.committee_answer.proofs.offers.Offers.hand_over.Goals as goal

pub give-requires-clause-left : goal.give-requires-clause-left
give-requires-clause-left c =
    let self = c.args.self.now in
    let edge_is = get_or_read self.edges.items c.args.place c.index-edge.result.now c.requires.place c.index-edge.ensures no_edge in
    let voter_is = ap (λ (e : Edge). e.voter) edge_is in
    let left_is = get_or_read self.left.items c.index-edge.result.now.voter c.index-2.result.now
    (omega (arith, voter_is, c.requires.small.voters c.args.place c.requires.place)) c.index-2.ensures 0 in
    omega (
      arith,
      c.min-amount.ensures,
      left_is,
      ap (at self.left.items) voter_is,
      left_there self c.take_back.new.self c.args.place c.args.back c.min-amount.result c.requires.small
          c.requires.place c.requires.back c.take_back.ensures.moved c.take_back.ensures.taken,
    )

pub give-requires-clause-spare : goal.give-requires-clause-spare
give-requires-clause-spare c = omega (
  arith,
  spare_there c.args.self.now c.take_back.new.self c.args.place c.args.back
      c.min-amount.result c.requires.small c.requires.place c.requires.back c.take_back.ensures.moved
      c.take_back.ensures.taken c.requires.same,
)

pub returns-clause-moved : goal.returns-clause-moved
returns-clause-moved c = moved_then _ _ _ c.take_back.ensures.moved c.give.ensures.moved

pub returns-clause-spare : goal.returns-clause-spare
returns-clause-spare c = same_spare c.args.self.now c.take_back.new.self c.args.place c.args.back c.min-amount.result
    c.requires.small c.requires.place c.requires.back c.take_back.ensures.moved c.take_back.ensures.taken
    c.requires.same c.give.new.self c.give.ensures.given

pub returns-clause-others : goal.returns-clause-others
returns-clause-others c = others_no_less c.args.self.now c.take_back.new.self c.args.place c.args.back
    c.min-amount.result c.requires.small c.requires.place c.requires.back c.take_back.ensures.moved
    c.take_back.ensures.taken c.requires.same c.give.new.self c.give.ensures.given

pub returns-clause-got : goal.returns-clause-got
returns-clause-got c = λ apart left_some given_some.
    let self = c.args.self.now in
    let edge_is = get_or_read self.edges.items c.args.place c.index-edge.result.now c.requires.place c.index-edge.ensures no_edge in
    let voter_is = ap (λ (e : Edge). e.voter) edge_is in
    let left_is = get_or_read self.left.items c.index-edge.result.now.voter c.index-2.result.now
    (omega (arith, voter_is, c.requires.small.voters c.args.place c.requires.place)) c.index-2.ensures 0 in
    let back_is = get_or_read self.edges.items c.args.back c.index.result.now c.requires.back c.index.ensures no_edge in
    got_some self c.take_back.new.self c.args.place c.args.back c.min-amount.result c.requires.small c.requires.place
    c.requires.back c.take_back.ensures.moved c.take_back.ensures.taken c.requires.same c.give.new.self
    c.give.ensures.given apart
    (omega (arith, c.min-amount.ensures, left_is, ap (at self.left.items) voter_is, left_some, given_some, c.from-given.ensures, ap (λ (e : Edge). e.amount) back_is))
