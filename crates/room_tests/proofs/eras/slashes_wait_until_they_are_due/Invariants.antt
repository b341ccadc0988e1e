use Rattle.std.proofs.Common.{◌+◌, ◌≤◌, length}
use Rattle.room_tests.proofs.eras.slashes_wait_until_they_are_due.Given as goal

-- each step gives one number at most
abbrev pub invariant-loop-step : goal.invariant-loop-step
invariant-loop-step g l = (l.book.next_slash ≤ l.step-index + 1) × (length l.step-items ≤ 21)
