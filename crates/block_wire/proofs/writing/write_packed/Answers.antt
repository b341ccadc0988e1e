use Rattle.std.proofs.lemmas.Result.{err_from_is_err_and}
use Rattle.scale_wire.proofs.ReadLemmas.{front_more}
use Rattle.block_wire.proofs.writing.write_packed.Goals as goal

pub returns-in_err-write_fields : goal.returns-in_err-write_fields
returns-in_err-write_fields g c =
    let p = err_from_is_err_and c.from_residual.result c.from_residual.ensures.1 in
    rw p.1 (front_more _ _ c.args.pen.now c.write_fields.new.pen c.in_err-write_fields.ensures)
