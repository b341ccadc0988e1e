use Rattle.std.proofs.lemmas.Result.{err_from_is_err_and}
use Rattle.scale_wire.proofs.ReadLemmas.{front_more}
use Rattle.block_wire.proofs.bundle.write_plain.Goals as goal

pub returns-in_err-write_listed : goal.returns-in_err-write_listed
returns-in_err-write_listed c =
    let p = err_from_is_err_and c.from_residual.result c.from_residual.ensures.1 in
    rw p.1 (front_more _ _ c.args.pen.now c.write_listed.new.pen c.in_err-write_listed.ensures)
