use Rattle.std.proofs.Common.{◌≡◌, take}
use Rattle.election_snapshot.specs.Snapshot.{has}
use Rattle.election_check.proofs.entries.is_among.Given as goal

-- whether it is among the votes so far
abbrev pub invariant-loop-vote : goal.invariant-loop-vote
invariant-loop-vote l = l.is_found ≡ has (take l.vote-index l.votes) l.target
