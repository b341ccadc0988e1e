-- The account after another one in its bag, or the first of a lower bag.
use Rattle.std.proofs.Common.{◌∙◌, sym, ap, take, Some}
use Rattle.std.specs.Option.{option_map}
use Rattle.voter_lists.specs.Bags.{is_listed}
use Rattle.voter_lists.specs.BagRows.{falling}
use Rattle.npos_base.specs.Account.{account_at}
use Rattle.voter_lists.specs.Nodes.{bags_in, home_of}
use Rattle.voter_lists.proofs.ListingLemmas.{noted_somewhere}
use Rattle.voter_lists.proofs.WalkLemmas.{or_first}
use Rattle.voter_lists.proofs.LinkedLemmas.{after_is}
use Rattle.voter_lists.proofs.bags.Bags.next.Goals as goal

pub unreachable-requires : goal.unreachable-requires
unreachable-requires c = noted_somewhere c.self.inside.thresholds (bags_in c.self.inside.nodes)
    (home_of c.self.inside.nodes) c.self.invariant.homes c.args.who
    (ap (λ listing. is_listed listing.order c.args.who) c.self.view_is ∙ c.requires) c.in_default.ensures.absent

pub returns-in-Some-next_in : goal.returns-in-Some-next_in
returns-in-Some-next_in c =
    let account = account_at c.self.inside.nodes.places in
    rw (← c.self.view_is)
    (sym (after_is c.self.inside.thresholds c.self.inside.nodes c.self.invariant c.args.who c.in-Some.place c.in-Some.home c.in-Some.ensures.found.0 c.in-Some.ensures.found.1 c.in-Some.ensures.found.2
    ∙ ap (λ o. or_first (option_map account o) (falling (take c.in-Some.home (bags_in c.self.inside.nodes)))) (sym c.next_in.ensures.value ∙ c.in-Some-next_in.is)
    ∙ ap (λ a. Some a) (sym c.account.ensures)))

pub returns-in-None : goal.returns-in-None
returns-in-None c =
    let account = account_at c.self.inside.nodes.places in
    rw (← c.self.view_is)
    (c.first_below.ensures
    ∙ sym (after_is c.self.inside.thresholds c.self.inside.nodes c.self.invariant c.args.who c.in-Some.place
    c.in-Some.home c.in-Some.ensures.found.0 c.in-Some.ensures.found.1 c.in-Some.ensures.found.2
    ∙ ap (λ o. or_first (option_map account o) (falling (take c.in-Some.home (bags_in c.self.inside.nodes)))) (sym c.next_in.ensures.value ∙ c.in-None.is)))
