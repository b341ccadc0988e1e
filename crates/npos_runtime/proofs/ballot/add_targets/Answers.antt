use Rattle.npos_runtime.proofs.Rules.BallotLemmas.{target_next}
use Rattle.npos_runtime.proofs.ballot.add_targets.Goals as goal

pub loop-i-preserved : goal.loop-i-preserved
loop-i-preserved c =
    target_next c.args.roles.now c.loop-i.parts c.put_target.new.self c.loop-i.i c.validator_at.result c.loop-i.invariant c.validator_at.ensures
    c.in_ok-put_target.ensures.ok
