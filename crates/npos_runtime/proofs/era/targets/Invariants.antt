use Rattle.std.proofs.Common.{◌≡◌, take}
use Rattle.npos_runtime.proofs.era.targets.Given as goal

-- the targets so far
abbrev pub invariant-loop-i : goal.invariant-loop-i
invariant-loop-i l = l.targets.items ≡ take l.i l.snapshot.targets
