use Rattle.std.proofs.Common.{◌≡◌, ℕ, ◌+◌, ◌*◌, ◌<◌, ◌≤◌, length}
use Rattle.npos_base.specs.declared.limits.TheConstants.{MOST_NOMINATIONS}
use Rattle.election_snapshot.specs.Snapshot.{votes_of}
use Rattle.seat_race.specs.Tables.{says}
use Rattle.quota_fill.proofs.chains.starts_of.Given as goal

-- the nominations of the voters so far begin where they are said to, and end at the last number
abbrev pub invariant-loop-voter : goal.invariant-loop-voter
invariant-loop-voter l = (length l.starts.items ≡ l.voter + 1)
    × ((voter : ℕ) → voter < l.voter → says l.starts.items (voter + 1) ≡ says l.starts.items voter + length (votes_of l.snapshot voter))
    × (says l.starts.items l.voter ≡ l.end) × (l.end ≤ MOST_NOMINATIONS * l.voter)
