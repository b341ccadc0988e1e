use Rattle.std.proofs.lemmas.Result.{err_from_is_err_and}
use Rattle.scale_wire.proofs.ListLemmas.{run_err}
use Rattle.scale_wire.proofs.layout.RunOfLayoutList.read.Goals as goal

pub returns-in_err-item : goal.returns-in_err-item
returns-in_err-item g c =
    let p = err_from_is_err_and c.from_residual.result c.from_residual.ensures.1 in
    rw (p.1, p.2) (run_err g.L.Layout.form c.args.cursor.now c.fork-here.result c.loop-items.here
    c.read_option_by.new.cursor c.loop-items.items.items c.in_err-item.field-0.0 c.fork-here.ensures
    c.loop-items.invariant c.in_err-item.ensures)
