use Rattle.std.proofs.lemmas.Result.{err_from_is_err_and}
use Rattle.election_work.proofs.ReadingLemmas.{voter_err}
use Rattle.election_work.proofs.bundle_parts.read_voters.Goals as goal

pub returns-in_err-voter : goal.returns-in_err-voter
returns-in_err-voter c =
    let p = err_from_is_err_and c.from_residual.result c.from_residual.ensures.1 in
    rw (p.1, p.2) (voter_err c.args.growing c.loop.so_far c.args.count c.loop.counter c.args.cursor.now
    c.fork-here.result c.loop.here c.read.new.cursor c.in_err-voter.field-0.0 c.fork-here.ensures c.loop-test.true
    c.loop.invariant c.in_err-voter.ensures)
