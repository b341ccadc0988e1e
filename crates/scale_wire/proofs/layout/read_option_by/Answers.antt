use Rattle.std.proofs.lemmas.Result.{err_from_is_err_and}
use Rattle.scale_wire.proofs.ReadLemmas.{optional_err}
use Rattle.scale_wire.proofs.layout.read_option_by.Goals as goal

pub returns-in_err-read : goal.returns-in_err-read
returns-in_err-read g c =
    let p = err_from_is_err_and c.from_residual-in_err-read.result c.from_residual-in_err-read.ensures.1 in
    rw (p.1, p.2) (optional_err g.L.Layout.form c.args.cursor.now c.fork-here.result c.take_tag.new.self
    c.read.new.cursor c.in_ok-tag.tag c.in_err-read.field-0.0 c.fork-here.ensures c.if-tag-eq0.false
    c.in_ok-tag.ensures c.in_err-read.ensures)
