use Rattle.std.proofs.Common.{arith, ◌≤◌, sum_by}
use Rattle.std.proofs.lemmas.List.Sums.{sum_by_more_le}
use Rattle.election_snapshot.specs.Snapshot.{stake_of}
use Rattle.weight_book.specs.Passing.{slack}
use Rattle.weight_book.proofs.SumLemmas.{sum_le}
use Rattle.phragmms_miner.proofs.few.slack_sum.Goals as goal

pub overflow_add-sum : goal.overflow_add-sum
overflow_add-sum c =
    let voters = c.args.voters.now in
    let value = slack c.args.price c.args.snapshot.now c.args.edges.now in
    let i = c.loop-voter.voter-index in
    let more = sum_by_more_le value voters i 0 c.loop-voter-test.true in
    let less : sum_by value voters ≤ sum_by (stake_of c.args.snapshot.now) voters = sum_le value (stake_of c.args.snapshot.now) voters (λ k d h. omega arith) in
    omega (arith, c.loop-voter.invariant, c.slack_of-sum.ensures, more, less, c.requires.fits)
