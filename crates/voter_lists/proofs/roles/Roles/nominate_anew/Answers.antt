-- Others keep their roles.
use Rattle.voter_lists.specs.declared.standing.Standing.TheVariants.{Nominator}
use Rattle.voter_lists.proofs.ValidatorLemmas.{others_put}
use Rattle.voter_lists.proofs.roles.Roles.nominate_anew.Goals as goal

pub returns-clause-others : goal.returns-clause-others
returns-clause-others c = rw (← c.self.view_is, c.in_ok-before.ensures.ok, c.as_slice-2.ensures) (others_put c.self.inside.standings.roles c.args.who (Nominator c.args.targets))
