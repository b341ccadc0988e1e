use Rattle.std.proofs.Common.{◌≡◌}
use Rattle.vote_tests.proofs.balances.without_edges.Given as goal

-- the backing is one of this election
abbrev pub invariant-loop-member : goal.invariant-loop-member
invariant-loop-member l = l.backing.snapshot ≡ l.snapshot
