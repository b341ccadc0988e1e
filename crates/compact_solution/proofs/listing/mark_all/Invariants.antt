use Rattle.std.proofs.Common.{take}
use Rattle.compact_solution.specs.Choosing.{AreKeptMarks}
use Rattle.compact_solution.proofs.listing.mark_all.Given as goal

-- the targets of the lists so far are marked
abbrev pub invariant-loop-edges : goal.invariant-loop-edges
invariant-loop-edges l = AreKeptMarks (take l.edges-index l.kept) l.marks
