use Rattle.std.proofs.Common.{◌+◌, ◌≤◌}
use Rattle.room_tests.proofs.eras.no_more_slashes_wait_than_can.Given as goal

-- each turn gives one number at most
abbrev pub invariant-loop : goal.invariant-loop
invariant-loop g l = l.book.next_slash ≤ l.counter + 1
