-- The account leaves the bag of its place.
use Rattle.std.proofs.Common.{◌∙◌, ap}
use Rattle.voter_lists.specs.Bags.{is_listed}
use Rattle.voter_lists.specs.Nodes.{bags_in, home_of}
use Rattle.voter_lists.proofs.ListingLemmas.{noted_somewhere, left_walk}
use Rattle.voter_lists.proofs.LinkedLemmas.{linked_left}
use Rattle.voter_lists.proofs.bags.Bags.remove.Goals as goal

pub leave-requires-clause-listed : goal.leave-requires-clause-listed
leave-requires-clause-listed c = noted_somewhere c.self.inside.thresholds (bags_in c.self.inside.nodes) (home_of c.self.inside.nodes) c.self.invariant.homes c.args.who
    (ap (λ listing. is_listed listing.order c.args.who) c.self.view_is ∙ c.requires)

pub invariant_of-self : goal.invariant_of-self
invariant_of-self c = linked_left c.self.inside.thresholds c.self.inside.nodes c.self.invariant c.leave.new.self c.args.who c.leave.ensures.0 c.leave.ensures.1 c.leave.ensures.2

pub returns : goal.returns
returns c =
    rw (← c.self.view_is) (ap (λ order. record { thresholds = c.self.inside.thresholds; order = order })
    (left_walk c.self.inside.thresholds (bags_in c.self.inside.nodes) (home_of c.self.inside.nodes)
    c.self.invariant.homes (bags_in c.leave.new.self) c.args.who c.leave.ensures.0 c.leave.ensures.1
    c.leave.ensures.2.lists))
