use Rattle.std.proofs.Common.{◌≡◌, false, take}
use Rattle.election_snapshot.specs.Snapshot.{has}
use Rattle.election_check.proofs.plain.place_of.Given as goal

-- the target is not among the votes so far
abbrev pub invariant-loop-place : goal.invariant-loop-place
invariant-loop-place l = has (take l.place l.votes) l.target ≡ false
