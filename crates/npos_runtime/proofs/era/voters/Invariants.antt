use Rattle.std.proofs.Common.{◌≡◌, take}
use Rattle.election_snapshot.specs.Draft.{accounts_of}
use Rattle.npos_runtime.proofs.era.voters.Given as goal

-- the voters so far
abbrev pub invariant-loop-i : goal.invariant-loop-i
invariant-loop-i l = l.voters.items ≡ accounts_of (take l.i l.snapshot.voters)
