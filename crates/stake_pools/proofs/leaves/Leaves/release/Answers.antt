use Rattle.std.proofs.lemmas.Fn.{filter_same}
use Rattle.std.proofs.Common.{rules, nat_lt, ap, ◌∙◌}
use Rattle.stake_pools.specs.Leaves.{later_leaves}
use Rattle.stake_pools.proofs.leaves.Leaves.release.Goals as goal

pub returns : goal.returns
returns c =
    filter_same _ (λ leave. nat_lt c.args.era leave.release) _ (λ x b f' k. search rules) _ _ c.retain.ensures.filtered
    ∙ ap (later_leaves c.args.era) c.self.view_is
