use Rattle.std.proofs.Common.{◌≡◌, take, map}
use Rattle.npos_runtime.specs.Kept.State.{voter_row}
use Rattle.npos_runtime.proofs.saved_polls.voter_rows.Given as goal

-- the voters so far have their rows
abbrev pub invariant-loop-i : goal.invariant-loop-i
invariant-loop-i l = l.rows ≡ map voter_row (take l.i l.snapshot.voters)
