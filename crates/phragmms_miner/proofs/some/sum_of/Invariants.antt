use Rattle.std.proofs.Common.{◌≡◌, take, sum_by}
use Rattle.seat_race.specs.Tables.{says}
use Rattle.phragmms_miner.proofs.some.sum_of.Given as goal

-- the sum of those so far
abbrev pub invariant-loop-voter : goal.invariant-loop-voter
invariant-loop-voter l = l.sum ≡ sum_by (says l.values) (take l.voter-index l.voters)
