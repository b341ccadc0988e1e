use Rattle.std.proofs.Common.{◌≡◌, ◌++◌, take}
use Rattle.scale_wire.specs.Composite.{row_bytes}
use Rattle.compact_solution.specs.Solution.{group_form}
use Rattle.compact_solution.proofs.writing.write_groups.Given as goal

-- the groups so far were written
abbrev pub invariant-loop-shares : goal.invariant-loop-shares
invariant-loop-shares l = l.pen ≡ l.initial.pen ++ row_bytes group_form 0 (take l.shares l.groups)
