use Rattle.std.proofs.lemmas.Result.{err_from_is_err_and}
use Rattle.election_work.proofs.ReadingLemmas.{voter_list_err, work_err}
use Rattle.election_work.proofs.bundle_parts.read_behind_seats.Goals as goal

pub returns-in_err-growing : goal.returns-in_err-growing
returns-in_err-growing c =
    let p = err_from_is_err_and c.from_residual-in_err-growing.result c.from_residual-in_err-growing.ensures.1 in
    rw (p.1, p.2) (voter_list_err c.in_ok-begun.begun c.in_ok-targets.targets c.args.cursor.now c.fork-here.result
    c.read_list.new.cursor c.read_voter_list.new.cursor c.in_err-growing.field-0.0 c.fork-here.ensures
    c.in_ok-targets.ensures c.in_err-growing.ensures)

pub returns-in_err-work : goal.returns-in_err-work
returns-in_err-work c =
    let p = err_from_is_err_and c.from_residual-in_err-work.result c.from_residual-in_err-work.ensures.1 in
    rw (p.1, p.2) (work_err c.in_ok-begun.begun c.in_ok-growing.growing c.in_ok-targets.targets c.args.cursor.now
    c.fork-here.result c.read_list.new.cursor c.read_voter_list.new.cursor c.read.new.cursor
    c.in_err-work.field-0.0 c.fork-here.ensures c.in_ok-targets.ensures c.in_ok-growing.ensures
    c.in_err-work.ensures)
