-- Each target has a place.
use Rattle.std.proofs.Common.{◌<◌, ◌∙◌, length, arith}
use Rattle.voter_lists.specs.Chosen.{chosen_in}
use Rattle.voter_lists.specs.Noted.{accounts_at}
use Rattle.voter_lists.proofs.NamedLemmas.{count_at, account_at, within_at}
use Rattle.voter_lists.proofs.targets.Targets.at.Goals as goal

pub at-requires : goal.at-requires
at-requires c =
    let below : c.args.i < length (accounts_at c.self.inside.places.now (chosen_in c.self.inside.chosen)) = rw (← c.self.view_is) at c.requires in
    omega (arith, below, count_at c.self.inside.places.now (chosen_in c.self.inside.chosen) c.self.invariant)

pub account-requires : goal.account-requires
account-requires c = within_at c.self.inside.places.now (chosen_in c.self.inside.chosen) c.args.i c.at.result c.self.invariant c.at.ensures

pub returns : goal.returns
returns c = rw (← c.self.view_is) (account_at c.self.inside.places.now (chosen_in c.self.inside.chosen) c.args.i c.at.result c.self.invariant c.at.ensures ∙ c.account.ensures.at)
