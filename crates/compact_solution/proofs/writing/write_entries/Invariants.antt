use Rattle.std.proofs.Common.{◌≡◌, ◌++◌, take}
use Rattle.std.specs.List.{flat_map}
use Rattle.compact_solution.specs.Solution.{entry_form}
use Rattle.compact_solution.proofs.writing.write_entries.Given as goal

-- the entries so far were written
abbrev pub invariant-loop-entry : goal.invariant-loop-entry
invariant-loop-entry l = l.pen ≡ l.initial.pen ++ flat_map (entry_form l.shares).spelling (take l.entry-index l.entries)
