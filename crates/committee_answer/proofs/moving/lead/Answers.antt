use Rattle.std.proofs.Common.{arith, ◌<◌, length, ap, ◌∙◌}
use Rattle.std.proofs.lemmas.List.{get_or_read}
use Rattle.npos_base.specs.declared.figures.Edge.{Edge}
use Rattle.committee_answer.specs.Offers.{at, edge_at, no_edge}
use Rattle.committee_answer.specs.Ways.{steps_at, IsReached}
use Rattle.committee_answer.proofs.OfferLemmas.{moved_then}
use Rattle.committee_answer.proofs.LeadLemmas.{step_at, return_at, nearer, apart, ways_on}
use Rattle.committee_answer.proofs.moving.lead.Goals as goal

pub returns-then-index-gt0-clause-less : goal.returns-then-index-gt0-clause-less
returns-then-index-gt0-clause-less c =
    let voters = c.args.reach.now.voters.items in
    let members = c.args.reach.now.members.items in
    let offers = c.steps.offers in
    let so = c.steps.invariant in
    let way = c.index.result.now in
    let step = step_at offers voters members c.steps.mover way c.index-in-steps.result.now c.from-target.result c.index-in-steps-2.result.now
    so.5 so.4 so.0 c.index.ensures c.index-in-steps.ensures c.from-target.ensures c.index-in-steps-2.ensures in
    let some_left : 0 < at offers.left.items (edge_at offers way.edge).voter = omega (arith, so.3, ap (at offers.left.items) step.leads.of_voter) in
    let some_spare : 0 < at offers.spare.items (edge_at offers way.edge).target = omega (arith, c.if-index-gt0.true, step.room_is, ap (at offers.spare.items) step.target_is) in
    omega (arith, so.2, c.give_all.ensures.less some_left some_spare)

pub index-requires-in-steps-3 : goal.index-requires-in-steps-3
index-requires-in-steps-3 c =
    let voters = c.args.reach.now.voters.items in
    let members = c.args.reach.now.members.items in
    let offers = c.steps.offers in
    let so = c.steps.invariant in
    let way = c.index.result.now in
    let step = step_at offers voters members c.steps.mover way c.index-in-steps.result.now c.from-target.result c.index-in-steps-2.result.now
    so.5 so.4 so.0 c.index.ensures c.index-in-steps.ensures c.from-target.ensures c.index-in-steps-2.ensures in
    let inside : c.from-target.result < length members = omega (arith, step.in_spare, so.1.spare_count, c.requires.reach.member_count) in
    omega (arith, inside, c.args.reach.now.members.ok.0)

pub index-requires-in-steps-4 : goal.index-requires-in-steps-4
index-requires-in-steps-4 c =
    let voters = c.args.reach.now.voters.items in
    let members = c.args.reach.now.members.items in
    let offers = c.steps.offers in
    let so = c.steps.invariant in
    let way = c.index.result.now in
    let step = step_at offers voters members c.steps.mover way c.index-in-steps.result.now c.from-target.result c.index-in-steps-2.result.now
    so.5 so.4 so.0 c.index.ensures c.index-in-steps.ensures c.from-target.ensures c.index-in-steps-2.ensures in
    let inside : c.from-target.result < length members = omega (arith, step.in_spare, so.1.spare_count, c.requires.reach.member_count) in
    let back = c.index-in-steps-3.result.now in
    let to = return_at offers voters members c.steps.mover way back c.from-target.result c.index-in-steps-2.result.now so.5 step (omega (arith, c.if-index-gt0.false))
    inside c.index-in-steps-3.ensures in
    omega (arith, to.is_back.inside, offers.edges.ok.0)

pub hand_over-requires-clause-place : goal.hand_over-requires-clause-place
hand_over-requires-clause-place c =
    let voters = c.args.reach.now.voters.items in
    let members = c.args.reach.now.members.items in
    let offers = c.steps.offers in
    let so = c.steps.invariant in
    let way = c.index.result.now in
    let step = step_at offers voters members c.steps.mover way c.index-in-steps.result.now c.from-target.result c.index-in-steps-2.result.now
    so.5 so.4 so.0 c.index.ensures c.index-in-steps.ensures c.from-target.ensures c.index-in-steps-2.ensures in
    step.leads.inside

pub hand_over-requires-clause-back : goal.hand_over-requires-clause-back
hand_over-requires-clause-back c =
    let voters = c.args.reach.now.voters.items in
    let members = c.args.reach.now.members.items in
    let offers = c.steps.offers in
    let so = c.steps.invariant in
    let way = c.index.result.now in
    let step = step_at offers voters members c.steps.mover way c.index-in-steps.result.now c.from-target.result c.index-in-steps-2.result.now
    so.5 so.4 so.0 c.index.ensures c.index-in-steps.ensures c.from-target.ensures c.index-in-steps-2.ensures in
    let inside : c.from-target.result < length members = omega (arith, step.in_spare, so.1.spare_count, c.requires.reach.member_count) in
    let back = c.index-in-steps-3.result.now in
    let to = return_at offers voters members c.steps.mover way back c.from-target.result c.index-in-steps-2.result.now so.5 step (omega (arith, c.if-index-gt0.false))
    inside c.index-in-steps-3.ensures in
    to.is_back.inside

pub hand_over-requires-clause-same : goal.hand_over-requires-clause-same
hand_over-requires-clause-same c =
    let voters = c.args.reach.now.voters.items in
    let members = c.args.reach.now.members.items in
    let offers = c.steps.offers in
    let so = c.steps.invariant in
    let way = c.index.result.now in
    let step = step_at offers voters members c.steps.mover way c.index-in-steps.result.now c.from-target.result c.index-in-steps-2.result.now
    so.5 so.4 so.0 c.index.ensures c.index-in-steps.ensures c.from-target.ensures c.index-in-steps-2.ensures in
    let inside : c.from-target.result < length members = omega (arith, step.in_spare, so.1.spare_count, c.requires.reach.member_count) in
    let back = c.index-in-steps-3.result.now in
    let to = return_at offers voters members c.steps.mover way back c.from-target.result c.index-in-steps-2.result.now so.5 step (omega (arith, c.if-index-gt0.false))
    inside c.index-in-steps-3.ensures in
    to.is_back.to_member

pub steps-smaller : goal.steps-smaller
steps-smaller c =
    let voters = c.args.reach.now.voters.items in
    let members = c.args.reach.now.members.items in
    let offers = c.steps.offers in
    let so = c.steps.invariant in
    let way = c.index.result.now in
    let step = step_at offers voters members c.steps.mover way c.index-in-steps.result.now c.from-target.result c.index-in-steps-2.result.now
    so.5 so.4 so.0 c.index.ensures c.index-in-steps.ensures c.from-target.ensures c.index-in-steps-2.ensures in
    let inside : c.from-target.result < length members = omega (arith, step.in_spare, so.1.spare_count, c.requires.reach.member_count) in
    let back = c.index-in-steps-3.result.now in
    let to = return_at offers voters members c.steps.mover way back c.from-target.result c.index-in-steps-2.result.now so.5 step (omega (arith, c.if-index-gt0.false))
    inside c.index-in-steps-3.ensures in
    let other_is = get_or_read offers.edges.items back.edge c.index-in-steps-4.result.now to.is_back.inside c.index-in-steps-4.ensures no_edge in
    let taker_is = ap (λ (e : Edge). e.voter) other_is in
    omega (arith, ap (steps_at voters) taker_is, nearer offers offers voters members c.steps.mover way back so.5 step.leads step.no_further to.is_back to.back_steps)

pub steps-preserved : goal.steps-preserved
steps-preserved c =
    let voters = c.args.reach.now.voters.items in
    let members = c.args.reach.now.members.items in
    let offers = c.steps.offers in
    let so = c.steps.invariant in
    let way = c.index.result.now in
    let step = step_at offers voters members c.steps.mover way c.index-in-steps.result.now c.from-target.result c.index-in-steps-2.result.now
    so.5 so.4 so.0 c.index.ensures c.index-in-steps.ensures c.from-target.ensures c.index-in-steps-2.ensures in
    let inside : c.from-target.result < length members = omega (arith, step.in_spare, so.1.spare_count, c.requires.reach.member_count) in
    let back = c.index-in-steps-3.result.now in
    let to = return_at offers voters members c.steps.mover way back c.from-target.result c.index-in-steps-2.result.now so.5 step (omega (arith, c.if-index-gt0.false))
    inside c.index-in-steps-3.ensures in
    let other_is = get_or_read offers.edges.items back.edge c.index-in-steps-4.result.now to.is_back.inside c.index-in-steps-4.ensures no_edge in
    let taker_is = ap (λ (e : Edge). e.voter) other_is in
    let some_left : 0 < at offers.left.items (edge_at offers way.edge).voter = omega (arith, so.3, ap (at offers.left.items) step.leads.of_voter) in
    let new = c.hand_over.new.self in
    let is_reached : IsReached voters (edge_at offers back.edge).voter =
    omega (
      arith,
      so.4,
      nearer offers new voters members c.steps.mover way back so.5 step.leads step.no_further
          to.is_back to.back_steps,
    ) in
    rw taker_is (
      c.hand_over.ensures.small,
      moved_then c.args.offers.now offers new so.1 c.hand_over.ensures.moved,
      c.hand_over.ensures.rest ∙ so.2,
      c.hand_over.ensures.got (apart offers new voters members c.steps.mover way back so.5 step.leads step.no_further to.is_back to.back_steps) some_left to.is_back.gives,
      is_reached,
      ways_on offers new voters members c.steps.mover way back so.5 step.leads step.no_further to.is_back to.back_steps c.hand_over.ensures.moved c.hand_over.ensures.spare c.hand_over.ensures.others,
    )
