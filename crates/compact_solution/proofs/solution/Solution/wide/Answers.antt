use Rattle.std.proofs.Common.{length, nat_eq, ap, ◌∙◌}
use Rattle.compact_solution.specs.Solution.{wide_groups}
use Rattle.compact_solution.proofs.solution.Solution.wide.Goals as goal

pub returns : goal.returns
unfolding wide_groups
returns c = ap (λ n. nat_eq n 24) (c.len.ensures ∙ ap length c.self.view_is)
