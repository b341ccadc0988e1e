use Rattle.std.proofs.lemmas.Result.{err_from_is_err_and}
use Rattle.scale_wire.proofs.ReadLemmas.{front_more, writes_behind}
use Rattle.block_wire.proofs.genesis.write_deferred.Goals as goal

pub returns-in_err-write_listed : goal.returns-in_err-write_listed
returns-in_err-write_listed c =
    let p = err_from_is_err_and c.from_residual.result c.from_residual.ensures.1 in
    rw p.1 (front_more _ _ c.args.pen.now c.write_listed.new.pen c.in_err-write_listed.ensures)

pub returns : goal.returns
returns c = writes_behind _ _ c.args.pen.now c.write_listed.new.pen c.write_both.result c.write_both.new.pen c.in_ok-write_listed.ensures c.write_both.ensures
