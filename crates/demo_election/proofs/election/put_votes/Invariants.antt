use Rattle.std.proofs.Common.{◌≡◌}
use Rattle.demo_election.specs.Generated.{votes_round}
use Rattle.demo_election.proofs.election.put_votes.Given as goal

abbrev pub invariant-loop-i : goal.invariant-loop-i
invariant-loop-i l = l.votes.items ≡ votes_round l.fn.targets l.fn.first l.i
