use Rattle.std.proofs.Common.{◌≡◌, []}
use Rattle.demo_election.specs.Generated.{targets_of}
use Rattle.demo_election.proofs.election.with_targets.Given as goal

abbrev pub invariant-loop-place : goal.invariant-loop-place
invariant-loop-place l = l.parts ≡ record { targets = targets_of l.place; voters = [] }
