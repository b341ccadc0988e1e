use Rattle.std.proofs.Common.{arith}
use Rattle.std.proofs.lemmas.List.Sums.{sum_by_more_le}
use Rattle.seat_race.specs.Tables.{says}
use Rattle.phragmms_miner.proofs.some.sum_of.Goals as goal

pub overflow_add-sum : goal.overflow_add-sum
overflow_add-sum c =
    let more = sum_by_more_le (says c.args.values.now) c.args.voters.now c.loop-voter.voter-index 0 c.loop-voter-test.true in
    omega (arith, c.loop-voter.invariant, more, c.requires.fits)
