use Rattle.std.proofs.Common.{take}
use Rattle.weight_book.specs.Room.{KeepsRoom}
use Rattle.compact_solution.specs.Solution.{entries_of}
use Rattle.election_check.specs.Taking.{AreTaken}
use Rattle.election_check.proofs.entries.take_entries.Given as goal

-- the entries of the groups so far are taken
abbrev pub invariant-loop-place : goal.invariant-loop-place
invariant-loop-place l = record {
  taken : AreTaken l.snapshot (entries_of (take l.place l.solution)) l.has_entry l.stamps l.weights;
  room : KeepsRoom l.initial.weights l.weights;
}
