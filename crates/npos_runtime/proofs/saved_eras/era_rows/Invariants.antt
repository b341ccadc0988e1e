use Rattle.std.proofs.Common.{◌≡◌, ◌+◌, ◌-◌, drop}
use Rattle.npos_runtime.specs.Kept.State.{era_rows}
use Rattle.npos_runtime.proofs.saved_eras.era_rows.Given as goal

-- the eras so far have their rows: the latest of them is the one before the next
abbrev pub invariant-loop-i : goal.invariant-loop-i
invariant-loop-i l = l.rows ≡ era_rows (l.current - l.past + l.i - 1) (drop (l.past + 1 - l.i) l.eras.kept)
