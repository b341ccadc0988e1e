use Rattle.std.proofs.Common.{◌∙◌, sym, ap}
use Rattle.voter_lists.specs.Bags.{Listing, is_listed, number_of}
use Rattle.voter_lists.specs.Nodes.{bags_in, home_of}
use Rattle.voter_lists.proofs.ListingLemmas.{noted_somewhere, listed_number}
use Rattle.voter_lists.proofs.bags.Bags.bag.Goals as goal

pub unreachable-requires : goal.unreachable-requires
unreachable-requires c = noted_somewhere c.self.inside.thresholds (bags_in c.self.inside.nodes)
    (home_of c.self.inside.nodes) c.self.invariant.homes c.args.who
    (ap (λ listing. is_listed listing.order c.args.who) c.self.view_is ∙ c.requires) c.in_default.ensures.absent

pub returns : goal.returns
returns c =
    ap (λ (listing : Listing). number_of listing.order c.args.who) (sym c.self.view_is)
    ∙ (listed_number c.self.inside.thresholds (bags_in c.self.inside.nodes) (home_of c.self.inside.nodes) c.self.invariant.homes c.args.who ∙ c.in-Some.ensures.found.1)
