use Rattle.std.proofs.lemmas.Result.{err_from_is_err_and}
use Rattle.scale_wire.proofs.ListLemmas.{list_err}
use Rattle.scale_wire.proofs.layout.read_list_by.Goals as goal

pub returns-in_err-items : goal.returns-in_err-items
returns-in_err-items g c =
    let p = err_from_is_err_and c.from_residual-in_err-items.result c.from_residual-in_err-items.ensures.1 in
    rw (p.1, p.2) (list_err g.L.Layout.form c.args.limit c.args.cursor.now c.fork-here.result c.take_length.new.self
    c.read_items.new.cursor c.in_ok-count.count c.in_err-items.field-0.0 c.fork-here.ensures c.in_ok-count.ensures
    c.in_err-items.ensures)
