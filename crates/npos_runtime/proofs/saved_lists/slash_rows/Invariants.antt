use Rattle.std.proofs.Common.{◌≡◌, take}
use Rattle.npos_runtime.proofs.saved_lists.slash_rows.Given as goal

-- the slashes so far are copied
abbrev pub invariant-loop-slash : goal.invariant-loop-slash
invariant-loop-slash l = l.copies ≡ take l.slash-index l.slashes
