use Rattle.std.proofs.lemmas.Result.{err_from_is_err_and}
use Rattle.scale_wire.proofs.ListLemmas.{byte_list_err}
use Rattle.scale_wire.proofs.wire.read_bytes.Goals as goal

pub returns-in_err-bytes : goal.returns-in_err-bytes
returns-in_err-bytes c =
    let p = err_from_is_err_and c.from_residual-in_err-bytes.result c.from_residual-in_err-bytes.ensures.1 in
    rw (p.1, p.2) (byte_list_err c.args.limit c.args.cursor.now c.fork-here.result c.take_length.new.self
    c.take_bytes.new.self c.in_ok-count.count c.in_err-bytes.field-0.0 c.fork-here.ensures c.in_ok-count.ensures
    c.in_err-bytes.ensures)
