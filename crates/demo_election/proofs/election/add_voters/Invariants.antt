use Rattle.std.proofs.Common.{◌≡◌, ◌*◌}
use Rattle.demo_election.specs.Generated.{targets_of, voters_of, state_after}
use Rattle.demo_election.proofs.election.add_voters.Given as goal

abbrev pub invariant-loop-place : goal.invariant-loop-place
invariant-loop-place l =
    (l.parts ≡ record { targets = targets_of l.fn.targets; voters = voters_of l.fn.seed l.fn.targets l.place })
    × (l.state ≡ state_after l.fn.seed (3 * l.place))
