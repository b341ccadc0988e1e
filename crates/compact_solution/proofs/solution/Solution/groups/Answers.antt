use Rattle.std.proofs.Common.{◌≡◌, length, rules, arith}
use Rattle.compact_solution.specs.Solution.{is_wide, groups_in}
use Rattle.compact_solution.proofs.WidthLemmas.{groups_counted}
use Rattle.compact_solution.proofs.GroupLemmas.{groups_most}
use Rattle.compact_solution.proofs.solution.Solution.groups.Goals as goal

pub returns-clause-number : goal.returns-clause-number
returns-clause-number c =
    let long : length c.self.inside.groups ≡ groups_in (is_wide c.self.inside.groups) = groups_counted c.self.inside.groups c.self.invariant in
    search (rules, long)

pub returns-clause-most : goal.returns-clause-most
returns-clause-most c =
    let long : length c.self.inside.groups ≡ groups_in (is_wide c.self.inside.groups) = groups_counted c.self.inside.groups c.self.invariant in
    let count : c.len.result ≡ length c.self.inside.groups = search rules in
    omega (arith, long, count, groups_most (is_wide c.self.inside.groups))
