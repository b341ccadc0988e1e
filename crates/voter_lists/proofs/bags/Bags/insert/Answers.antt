-- The account joins the tail of the bag.
use Rattle.std.proofs.Common.{◌∙◌, ap, length, arith}
use Rattle.voter_lists.specs.Bags.{is_listed, in_walk_order, joined, bag_of}
use Rattle.voter_lists.specs.BagRows.{walk_from}
use Rattle.voter_lists.specs.Nodes.{bags_in, home_of}
use Rattle.voter_lists.proofs.ListingLemmas.{not_listed, joined_walk}
use Rattle.npos_base.proofs.Refusals.{then_ok}
use Rattle.voter_lists.proofs.LinkedLemmas.{linked_joined}
use Rattle.voter_lists.proofs.bags.Bags.insert.Goals as goal

pub join-requires-clause-absent : goal.join-requires-clause-absent
join-requires-clause-absent c =
    not_listed c.self.inside.thresholds (bags_in c.self.inside.nodes) (home_of c.self.inside.nodes)
    c.self.invariant.homes c.args.who (ap (λ listing. is_listed listing.order c.args.who) c.self.view_is
    ∙ c.requires)

pub invariant_of-self : goal.invariant_of-self
invariant_of-self c =
    linked_joined c.self.inside.thresholds c.self.inside.nodes c.self.invariant c.join.new.self c.args.who
    c.number_of_score-number.result c.join.result (omega (
      arith,
      c.number_of_score-number.ensures.within,
      ap length c.as_slice.ensures,
      c.self.invariant.homes.count,
    ))
    (not_listed c.self.inside.thresholds (bags_in c.self.inside.nodes) (home_of c.self.inside.nodes)
    c.self.invariant.homes c.args.who (ap (λ listing. is_listed listing.order c.args.who) c.self.view_is
    ∙ c.requires)) c.join.ensures.ok c.join.ensures.err

pub returns-clause-ok : goal.returns-clause-ok
returns-clause-ok c =
    rw (← c.self.view_is) (then_ok c.join.result
    (λ becomes. ap (λ order. record { thresholds = c.self.inside.thresholds; order = order })
    (joined_walk c.self.inside.thresholds (bags_in c.self.inside.nodes) (home_of c.self.inside.nodes)
    c.self.invariant.homes (bags_in c.join.new.self) c.args.who c.number_of_score-number.result
    (omega (
      arith,
      c.number_of_score-number.ensures.within,
      ap length c.as_slice.ensures,
      c.self.invariant.homes.count,
    )) becomes.lists
    ∙ ap (λ n. in_walk_order c.self.inside.thresholds (joined (walk_from 0 (bags_in c.self.inside.nodes)) c.args.who
    n)) (c.number_of_score-number.ensures.number ∙ ap (λ ts. bag_of ts c.args.score) c.as_slice.ensures)))
    c.join.ensures.ok)
