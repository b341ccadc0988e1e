use Rattle.std.proofs.Common.{[], ◌∷◌, ◌++◌, ap₂, ◌∙◌}
use Rattle.voter_lists.specs.Roles.{role_of, validators_of}
use Rattle.npos_runtime.specs.Rules.Ballots.{commission_in}
use Rattle.npos_runtime.proofs.Rules.BallotLemmas.{mapped_next}
use Rattle.npos_runtime.proofs.ballot.commissions.Goals as goal

pub loop-i-preserved : goal.loop-i-preserved
loop-i-preserved c =
    c.in_ok-push.ensures.items
    ∙ (ap₂ (λ noted next. noted ++ next ∷ []) c.loop-i.invariant c.commission.ensures
    ∙ mapped_next (λ who. commission_in (role_of c.args.roles.now who)) (validators_of c.args.roles.now) c.loop-i.i c.validator_at.result c.validator_at.ensures)
