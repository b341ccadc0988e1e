-- The group that is told is among the nominators of its target.
use Rattle.std.proofs.Common.{ℕ, ◌*◌, ◌/◌, ◌<◌, ◌≤◌, not, List, length, All, arith}
use Rattle.std.proofs.Math.Nat.{div-le_of_le-mul, mul-le-mul_left, mul_comm}
use Rattle.election_snapshot.specs.Snapshot.{Snapshot, nominates, stake_of, total_stake}
use Rattle.weight_book.specs.Passing.{nominators}
use Rattle.weight_book.specs.Proportional.{group_stake}
use Rattle.weight_book.proofs.SumLemmas.{sum_filter-le}
use Rattle.seat_race.proofs.InLemmas.{all_in, from_filter, from_range}
use Rattle.seat_race.proofs.NominatorLemmas.{stakes_to_fit}
use Rattle.committee_answer.specs.declared.reach.Way.{Way}
use Rattle.committee_answer.specs.Ways.{reached, stuck}
use Rattle.std.specs.List.{range_with_len}

pub nominators_in_range : (snapshot : Snapshot) (target : ℕ) → All (λ voter. voter < length snapshot.voters) (nominators snapshot target)
nominators_in_range snapshot target = all_in (λ voter. voter < length snapshot.voters) (nominators snapshot target)
    (λ voter i. omega (arith, (from_range 0 (length snapshot.voters) voter (from_filter (λ v. nominates snapshot v target) (range_with_len 0 (length snapshot.voters)) voter i).0).1))

pub stuck_fit : (snapshot : Snapshot) (ways : List Way) (target : ℕ) → group_stake snapshot (stuck ways (nominators snapshot target)) ≤ total_stake snapshot
stuck_fit snapshot ways target = omega (
  arith,
  sum_filter-le (λ voter. not (reached ways voter)) (stake_of snapshot) (nominators snapshot target),
  stakes_to_fit snapshot target,
)

-- no stake stands for more seats than there are
pub seats_fit : (seats stake total : ℕ) → stake ≤ total → seats * stake / total ≤ seats
seats_fit seats stake total h = div-le_of_le-mul total {m = seats * stake} {n = seats} (omega (arith, mul-le-mul_left seats h, mul_comm seats total))
