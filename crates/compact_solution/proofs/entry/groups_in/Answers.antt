use Rattle.std.proofs.Common.{sym, ap}
use Rattle.compact_solution.specs.Solution.{plain_groups, wide_groups, groups_in}
use Rattle.compact_solution.proofs.entry.groups_in.Goals as goal

pub returns-then-wide-clause-number : goal.returns-then-wide-clause-number
unfolding wide_groups
returns-then-wide-clause-number c = sym (ap groups_in c.if-wide.true)

pub returns-else-wide-clause-number : goal.returns-else-wide-clause-number
unfolding plain_groups
returns-else-wide-clause-number c = sym (ap groups_in c.if-wide.false)
