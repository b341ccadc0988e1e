use Rattle.std.proofs.Common.{◌≡◌, ℕ, ◌<◌, ◌≤◌, length}
use Rattle.seat_race.specs.Tables.{says, nominators_before}
use Rattle.seat_race.proofs.nominators.count_nominators.Given as goal

-- how many nominate each target among the voters so far, which are no more than these
abbrev pub invariant-loop-voter : goal.invariant-loop-voter
invariant-loop-voter l = ((target : ℕ) → target < length l.snapshot.targets
    → (says l.counts target ≡ length (nominators_before l.snapshot target l.voter)) × (says l.counts target ≤ l.voter)) × (length l.counts ≡ length l.snapshot.targets)
