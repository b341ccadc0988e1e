use Rattle.std.proofs.Common.{sym, subst, ◌∙◌}
use Rattle.election_snapshot.specs.Snapshot.{Snapshot}
use Rattle.weight_book.specs.Weights.{IsFeasible}
use Rattle.election_work.proofs.MiningLaws.{some_members, amounts_fit}
use Rattle.election_work.proofs.mining.mine_plain.Goals as goal

pub score-score-requires-clause-some : goal.score-score-requires-clause-some
score-score-requires-clause-some c = some_members c.args.snapshot c.args.weights.plain c.every_snapshot_is_well_formed.ensures c.requires

pub score-score-requires-clause-fits : goal.score-score-requires-clause-fits
score-score-requires-clause-fits c = amounts_fit c.args.snapshot c.args.weights.plain c.every_snapshot_is_well_formed.ensures c.requires

pub as_mined-requires-clause-feasible : goal.as_mined-requires-clause-feasible
as_mined-requires-clause-feasible c =
    subst (λ (s : Snapshot). IsFeasible s c.args.weights.plain) (sym (c.into_snapshot.ensures ∙
    (c.verdict-verdict.ensures.snapshot ∙ c.in_ok-checker.ensures))) c.requires
