use Rattle.std.proofs.Common.{[], ◌∷◌, ◌++◌, ap, ◌∙◌}
use Rattle.npos_runtime.proofs.Rules.BallotLemmas.{take_next}
use Rattle.npos_runtime.proofs.era.targets.Goals as goal

pub loop-i-preserved : goal.loop-i-preserved
loop-i-preserved c =
    c.in_ok-push.ensures.items
    ∙ (ap (λ targets. targets ++ c.target.result ∷ []) c.loop-i.invariant ∙ take_next c.args.snapshot.now.targets c.loop-i.i c.target.result c.target.ensures)
