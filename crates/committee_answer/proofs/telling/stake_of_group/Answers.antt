use Rattle.std.proofs.Common.{rules, arith, ◌<◌, length}
use Rattle.std.proofs.lemmas.List.Sums.{sum_by_more_le}
use Rattle.election_snapshot.specs.Snapshot.{stake_of}
use Rattle.committee_answer.proofs.telling.stake_of_group.Goals as goal

pub overflow_add-stake : goal.overflow_add-stake
overflow_add-stake c =
    let group = c.args.group.now in
    let i = c.loop-voter.voter-index in
    let h : i < length group = search rules in
    omega (
      arith,
      c.loop-voter.invariant,
      c.stake-stake.ensures.stake,
      sum_by_more_le (stake_of c.args.snapshot.now) group i 0 h,
      c.requires.fits,
      c.total-total.ensures.well_formed.voters.total_fits,
    )
