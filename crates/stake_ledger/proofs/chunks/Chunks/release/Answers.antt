use Rattle.std.proofs.lemmas.Fn.{filter_same}
use Rattle.std.proofs.Common.{rules, nat_lt, ap, ◌∙◌}
use Rattle.stake_ledger.specs.Chunks.{unreleased}
use Rattle.stake_ledger.proofs.chunks.Chunks.release.Goals as goal

pub returns-clause-chunks : goal.returns-clause-chunks
returns-clause-chunks c =
    filter_same _ (λ chunk. nat_lt c.args.era chunk.release) _ (λ x b f' k. search rules) _ _ c.retain.ensures.filtered
    ∙ ap (unreleased c.args.era) c.self.view_is
