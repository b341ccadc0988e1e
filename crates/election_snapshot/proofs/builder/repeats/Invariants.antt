use Rattle.std.proofs.Common.{◌≡◌, length}
use Rattle.election_snapshot.specs.Draft.{has_repeat}
use Rattle.election_snapshot.proofs.builder.repeats.Given as goal

abbrev pub invariant-loop-first : goal.invariant-loop-first
invariant-loop-first l = has_repeat l.rest ≡ has_repeat l.fn.votes

abbrev pub decreases-loop-first : goal.decreases-loop-first
decreases-loop-first l = length l.rest
