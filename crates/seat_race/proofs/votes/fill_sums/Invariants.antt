use Rattle.std.proofs.Common.{◌≡◌, ℕ, ◌<◌, length, get_or, sum_by}
use Rattle.seat_race.specs.Tables.{nominators_before}
use Rattle.seat_race.specs.Tables.{says}
use Rattle.seat_race.proofs.votes.fill_sums.Given as goal

-- the sums over the voters so far
abbrev pub invariant-loop-voter : goal.invariant-loop-voter
invariant-loop-voter l = ((target : ℕ) → target < length l.snapshot.targets
    → get_or l.sums target 0 ≡ sum_by (says l.values) (nominators_before l.snapshot target l.voter)) × (length l.sums ≡ length l.snapshot.targets)
