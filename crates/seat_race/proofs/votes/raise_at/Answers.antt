use Rattle.std.proofs.Common.{rules, arith, ◌≡◌, ◌+◌, get_or}
use Rattle.seat_race.proofs.TableLemmas.{not_yet, changed}
use Rattle.seat_race.proofs.votes.raise_at.Goals as goal

pub overflow_add-table : goal.overflow_add-table
overflow_add-table c =
    let votes = c.args.votes.now in
    let i = c.loop-vote.vote-index in
    let is : c.from.result ≡ get_or c.args.votes.now c.loop-vote.vote-index 0 = search rules in
    let same = not_yet votes c.requires.distinct i 0 c.loop-vote-test.true (λ n. n + c.args.amount) 0 c.args.table.now c.loop-vote.table
    c.loop-vote.invariant (c.requires.in_range i 0 c.loop-vote-test.true) in
    rw is (omega (arith, same, c.requires.fits (get_or votes i 0) (c.requires.in_range i 0 c.loop-vote-test.true)))

pub loop-vote-preserved : goal.loop-vote-preserved
loop-vote-preserved c =
    let votes = c.args.votes.now in
    let i = c.loop-vote.vote-index in
    let is : c.from.result ≡ get_or c.args.votes.now c.loop-vote.vote-index 0 = search rules in (
      rw is (changed votes c.requires.distinct i 0 c.loop-vote-test.true (λ n. n + c.args.amount) 0 c.args.table.now c.loop-vote.table
          c.loop-vote.invariant (c.requires.in_range i 0 c.loop-vote-test.true)),
      search rules,
    )
