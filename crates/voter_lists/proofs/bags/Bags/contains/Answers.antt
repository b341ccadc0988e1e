-- The account is listed where it has a home.
use Rattle.std.proofs.Common.{◌∙◌, sym, ap}
use Rattle.voter_lists.specs.Bags.{is_listed}
use Rattle.voter_lists.specs.Nodes.{bags_in, home_of}
use Rattle.voter_lists.proofs.ListingLemmas.{listed_some}
use Rattle.voter_lists.proofs.LinkedLemmas.{found_home}
use Rattle.voter_lists.proofs.bags.Bags.contains.Goals as goal

pub returns : goal.returns
returns c =
    c.is_some.ensures ∙ found_home (home_of c.self.inside.nodes c.args.who) c.find.result (λ at. at.1) _ _ c.find.ensures.found c.find.ensures.absent
    ∙ sym (listed_some c.self.inside.thresholds (bags_in c.self.inside.nodes) (home_of c.self.inside.nodes) c.self.invariant.homes c.args.who)
    ∙ ap (λ listing. is_listed listing.order c.args.who) c.self.view_is
