use Rattle.std.proofs.Common.{◌≡◌, false, drop, length}
use Rattle.voter_lists.specs.Marks.{has_repeated_mark}
use Rattle.voter_lists.proofs.ClassLemmas.{AreMet}
use Rattle.voter_lists.proofs.roles.doubts.Given as goal

-- no mark from i on stands twice, and the classes of these are met
abbrev pub invariant-loop-i : goal.invariant-loop-i
invariant-loop-i l = (has_repeated_mark (drop l.i l.marks) ≡ false) × AreMet l.marks l.i l.is_met × (length l.is_met ≡ 256)
