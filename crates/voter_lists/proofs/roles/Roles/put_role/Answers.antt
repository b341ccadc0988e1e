-- Others keep their roles while targets get places, and when the account takes its own.
use Rattle.voter_lists.specs.declared.standing.Standing.TheVariants.{Nominator}
use Rattle.voter_lists.proofs.RankedPlaceLemmas.{still_ranked}
use Rattle.voter_lists.proofs.ValidatorLemmas.{others_put}
use Rattle.voter_lists.proofs.roles.Roles.put_role.Goals as goal
use Rattle.voter_lists.proofs.roles.Roles.put_role.Goals.{in-Nominator+in_ok-marks-in-Nominator+in_ok-put_nominator-in-Nominator, in-Validator+in_ok-put_validator-in-Validator}

pub invariant_of-self : goal.invariant_of-self
invariant_of-self c = still_ranked c.self.inside.standings c.self.inside.validators.items c.self.invariant c.marks_for.new.self c.marks_for.ensures.kept c.marks_for.ensures.roles

pub put_nominator-requires-clause-ranked : goal.put_nominator-requires-clause-ranked
put_nominator-requires-clause-ranked c =
    still_ranked c.self.inside.standings c.self.inside.validators.items c.self.invariant c.marks_for.new.self c.marks_for.ensures.kept c.marks_for.ensures.roles

pub returns-clause-others : goal.returns-clause-others
returns-clause-others c = elim c.match-role.branch [
  | in-Nominator+in_ok-marks-in-Nominator+in_ok-put_nominator-in-Nominator w ↦
      rw (w.self-is, ← w.self.view_is, w.in_ok-put_nominator-in-Nominator.ensures.ok, w.as_slice-in-Nominator.ensures, w.marks_for.ensures.roles)
      (others_put w.self.inside.standings.roles c.args.who (Nominator c.args.targets))
  | in-Validator+in_ok-put_validator-in-Validator w ↦ rw w.self-is w.in_ok-put_validator-in-Validator.ensures.others
]
