use Rattle.std.proofs.lemmas.Result.{err_from_is_err_and}
use Rattle.scale_wire.proofs.ListLemmas.{items_err}
use Rattle.scale_wire.proofs.layout.read_items.Goals as goal

pub returns-in_err-item : goal.returns-in_err-item
returns-in_err-item g c =
    let p = err_from_is_err_and c.from_residual-in_err-item.result c.from_residual-in_err-item.ensures.1 in
    rw (p.1, p.2) (items_err g.L.Layout.form c.args.count c.loop.counter c.args.cursor.now c.fork-here.result
    c.loop.here c.read.new.cursor c.loop.items.items c.in_err-item.field-0.0 c.fork-here.ensures c.loop-test.true
    c.loop.invariant c.in_err-item.ensures)
