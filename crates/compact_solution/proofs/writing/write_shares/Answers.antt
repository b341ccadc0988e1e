use Rattle.std.proofs.lemmas.Result.{err_from_is_err_and}
use Rattle.compact_solution.specs.Solution.{share_form}
use Rattle.compact_solution.proofs.Writers.{items_front_at}
use Rattle.compact_solution.proofs.writing.write_shares.Goals as goal

pub returns-in_err-write : goal.returns-in_err-write
returns-in_err-write c =
    let p = err_from_is_err_and c.from_residual.result c.from_residual.ensures.1 in
    rw p.1 (items_front_at share_form.spelling c.args.shares.now c.loop-share.share-index
    (record { target = 0; parts = 0 }) c.args.pen.now c.loop-share.pen c.write.new.pen c.loop-share-test.true
    c.loop-share.invariant c.in_err-write.ensures)
