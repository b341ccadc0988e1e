use Rattle.std.proofs.Common.{◌≡◌, take}
use Rattle.std.specs.List.{zip}
use Rattle.npos_runtime.proofs.saved_polls.target_rows.Given as goal

-- the targets so far stand with their commissions
abbrev pub invariant-loop-i : goal.invariant-loop-i
invariant-loop-i l = l.rows ≡ take l.i (zip l.snapshot.targets l.commissions)
