use Rattle.scale_wire.specs.Composite.{items}
use Rattle.scale_wire.specs.Reading.{IsRead}
use Rattle.compact_solution.specs.Solution.{entry_form}
use Rattle.compact_solution.proofs.reading.read_shared.Given as goal

-- as many entries as iterations were read
abbrev pub invariant-loop : goal.invariant-loop
invariant-loop l = IsRead (items (entry_form l.shares) l.counter) l.initial.here l.entries.items l.here
