use Rattle.std.proofs.Common.{ap, subst, ◌∙◌}
use Rattle.election_snapshot.specs.Snapshot.{Snapshot, IsWellFormed}
use Rattle.election_check.specs.Plain.{verdict_plain}
use Rattle.election_work.proofs.SoundLaws.{fill_is_yes}
use Rattle.election_work.proofs.laws.a_fill_is_sealed.Goals as goal

pub unreachable-requires : goal.unreachable-requires
unreachable-requires c = c.in-Err.ensures.no (c.in-Err.ensures.verdict ∙ ap (verdict_plain c.args.checker) c.requires
    ∙ fill_is_yes c.args.checker (subst (λ (s : Snapshot). IsWellFormed s) c.snapshot.ensures c.every_snapshot_is_well_formed.ensures))
