use Rattle.std.proofs.Common.{◌++◌, take}
use Rattle.weight_book.specs.Room.{KeepsRoom}
use Rattle.compact_solution.specs.Solution.{entries_of}
use Rattle.election_check.specs.Taking.{AreTaken}
use Rattle.election_check.proofs.entries.take_group.Given as goal

-- the entries of the groups before are taken, and those of this group so far
abbrev pub invariant-loop-entry : goal.invariant-loop-entry
invariant-loop-entry l = record {
  taken : AreTaken l.snapshot (entries_of (take l.place l.solution) ++ take l.entry-index l.entry-items) l.has_entry l.stamps l.weights;
  room : KeepsRoom l.initial.weights l.weights;
}
