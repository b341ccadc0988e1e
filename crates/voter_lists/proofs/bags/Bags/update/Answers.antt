-- The account leaves its bag for that of its score.
use Rattle.std.proofs.Common.{◌∙◌, sym, ap, length, arith, not, if◌then◌else◌}
use Rattle.voter_lists.specs.Bags.{Listing, is_listed, in_walk_order, joined, left, bag_of, moved}
use Rattle.voter_lists.specs.BagRows.{walk_from}
use Rattle.voter_lists.specs.Nodes.{bags_in, home_of}
use Rattle.voter_lists.proofs.ListingLemmas.{noted_somewhere, moved_walk, at_home, not_home}
use Rattle.voter_lists.proofs.LinkedLemmas.{linked_moved}
use Rattle.voter_lists.proofs.bags.Bags.update.Goals as goal

pub unreachable-requires : goal.unreachable-requires
unreachable-requires c = noted_somewhere c.self.inside.thresholds (bags_in c.self.inside.nodes)
    (home_of c.self.inside.nodes) c.self.invariant.homes c.args.who
    (ap (λ listing. is_listed listing.order c.args.who) c.self.view_is ∙ c.requires) c.in_default.ensures.absent

pub returns-then-home-number-clause-answer : goal.returns-then-home-number-clause-answer
returns-then-home-number-clause-answer c = rw (← c.self.view_is)
    (sym (ap not (at_home c.self.inside.thresholds (bags_in c.self.inside.nodes) (home_of c.self.inside.nodes)
    c.self.invariant.homes c.args.who c.in-Some.home c.number_of_score-number.result _ c.in-Some.ensures.found.1
    (c.number_of_score-number.ensures.number ∙ ap (λ ts. bag_of ts c.args.score) c.as_slice.ensures)
    c.if-home-number.true)))

pub returns-then-home-number-clause-ok : goal.returns-then-home-number-clause-ok
returns-then-home-number-clause-ok c =
    let listing : Listing = record { thresholds = c.self.inside.thresholds; order = walk_from 0 (bags_in c.self.inside.nodes) } in
    rw (← c.self.view_is) (sym (ap (λ b. if b then listing else moved listing c.args.who c.args.score)
    (at_home c.self.inside.thresholds (bags_in c.self.inside.nodes) (home_of c.self.inside.nodes)
    c.self.invariant.homes c.args.who c.in-Some.home c.number_of_score-number.result _ c.in-Some.ensures.found.1
    (c.number_of_score-number.ensures.number ∙ ap (λ ts. bag_of ts c.args.score) c.as_slice.ensures)
    c.if-home-number.true)))

pub invariant_of-self : goal.invariant_of-self
invariant_of-self c =
    linked_moved c.self.inside.thresholds c.self.inside.nodes c.self.invariant c.move_to.new.self c.args.who
    c.number_of_score-number.result c.in-Some.home c.in-Some.ensures.found.1
    (omega (
      arith,
      c.number_of_score-number.ensures.within,
      ap length c.as_slice.ensures,
      c.self.invariant.homes.count,
    )) c.if-home-number.false
    (c.move_to.ensures c.args.who c.in-Some.ensures.found.0)

pub returns-clause-answer : goal.returns-clause-answer
returns-clause-answer c = rw (← c.self.view_is)
    (sym (ap not (not_home c.self.inside.thresholds (bags_in c.self.inside.nodes) (home_of c.self.inside.nodes)
    c.self.invariant.homes c.args.who c.in-Some.home c.number_of_score-number.result _ c.in-Some.ensures.found.1
    (c.number_of_score-number.ensures.number ∙ ap (λ ts. bag_of ts c.args.score) c.as_slice.ensures)
    c.if-home-number.false)))

pub returns-clause-ok : goal.returns-clause-ok
returns-clause-ok c =
    let listing : Listing = record { thresholds = c.self.inside.thresholds; order = walk_from 0 (bags_in c.self.inside.nodes) } in
    rw (← c.self.view_is)
    (ap (λ order. record { thresholds = c.self.inside.thresholds; order = order })
    (moved_walk c.self.inside.thresholds (bags_in c.self.inside.nodes) (home_of c.self.inside.nodes)
    c.self.invariant.homes c.args.who c.in-Some.home c.number_of_score-number.result c.in-Some.ensures.found.1
    (omega (
      arith,
      c.number_of_score-number.ensures.within,
      ap length c.as_slice.ensures,
      c.self.invariant.homes.count,
    )) c.if-home-number.false
    (bags_in c.move_to.new.self) (c.move_to.ensures c.args.who c.in-Some.ensures.found.0).lists
    ∙ ap (λ n. in_walk_order c.self.inside.thresholds (joined (left (walk_from 0 (bags_in c.self.inside.nodes))
    c.args.who) c.args.who n)) (c.number_of_score-number.ensures.number
    ∙ ap (λ ts. bag_of ts c.args.score) c.as_slice.ensures))
    ∙ sym (ap (λ b. if b then listing else moved listing c.args.who c.args.score)
    (not_home c.self.inside.thresholds (bags_in c.self.inside.nodes) (home_of c.self.inside.nodes)
    c.self.invariant.homes c.args.who c.in-Some.home c.number_of_score-number.result _ c.in-Some.ensures.found.1
    (c.number_of_score-number.ensures.number ∙ ap (λ ts. bag_of ts c.args.score) c.as_slice.ensures)
    c.if-home-number.false)))
