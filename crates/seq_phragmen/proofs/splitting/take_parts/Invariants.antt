use Rattle.std.proofs.Common.{◌≡◌, ℕ, ◌-◌, get_or, length, take}
use Rattle.election_snapshot.specs.Snapshot.{stake_of}
use Rattle.seq_phragmen.specs.Kept.{earlier_parts}
use Rattle.seq_phragmen.proofs.splitting.take_parts.Given as goal

-- the parts of the rises so far are taken
abbrev pub invariant-loop-rise : goal.invariant-loop-rise
invariant-loop-rise l = ((voter : ℕ) → get_or l.left voter 0
    ≡ stake_of l.snapshot voter - earlier_parts l.snapshot (get_or l.loads voter 0) (get_or l.lasts voter 0) (take l.rise-index l.rises) voter)
    × (length l.left ≡ length l.snapshot.voters)
