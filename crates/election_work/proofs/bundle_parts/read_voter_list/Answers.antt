use Rattle.std.proofs.lemmas.Result.{err_from_is_err_and}
use Rattle.election_work.proofs.ReadingLemmas.{voters_err}
use Rattle.election_work.proofs.bundle_parts.read_voter_list.Goals as goal

pub returns-in_err-grown : goal.returns-in_err-grown
returns-in_err-grown c =
    let p = err_from_is_err_and c.from_residual-in_err-grown.result c.from_residual-in_err-grown.ensures.1 in
    rw (p.1, p.2) (voters_err c.args.growing c.args.cursor.now c.fork-here.result c.take_length.new.self
    c.read_voters.new.cursor c.in_ok-count.count c.in_err-grown.field-0.0 c.fork-here.ensures
    c.in_ok-count.ensures c.in_err-grown.ensures)
