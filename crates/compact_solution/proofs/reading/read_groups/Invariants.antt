use Rattle.scale_wire.specs.Composite.{row}
use Rattle.scale_wire.specs.Reading.{IsRead}
use Rattle.compact_solution.specs.Solution.{group_form}
use Rattle.compact_solution.proofs.reading.read_groups.Given as goal

-- as many groups as iterations were read
abbrev pub invariant-loop-shares : goal.invariant-loop-shares
invariant-loop-shares l = IsRead (row group_form 0 l.shares) l.initial.here l.groups.items l.here
