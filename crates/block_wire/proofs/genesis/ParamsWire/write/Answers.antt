use Rattle.std.proofs.lemmas.Result.{err_from_is_err_and}
use Rattle.scale_wire.proofs.ReadLemmas.{front_more, second_front, third_written}
use Rattle.block_wire.proofs.genesis.ParamsWire.write.Goals as goal

pub returns-in_err-write : goal.returns-in_err-write
returns-in_err-write c =
    let p = err_from_is_err_and c.from_residual.result c.from_residual.ensures.1 in
    rw p.1 (front_more _ _ c.args.pen.now c.write.new.pen c.in_err-write.ensures)

pub returns-in_err-write_list : goal.returns-in_err-write_list
returns-in_err-write_list c =
    let p = err_from_is_err_and c.from_residual-in_err-write_list.result c.from_residual-in_err-write_list.ensures.1 in
    rw p.1 (second_front _ _ _ c.args.pen.now c.write.new.pen c.write_list.new.pen c.in_ok-write.ensures c.in_err-write_list.ensures)

pub returns : goal.returns
returns c = third_written _ _ _ c.args.pen.now c.write.new.pen c.write_list.new.pen c.write-2.result c.write-2.new.pen c.in_ok-write.ensures c.in_ok-write_list.ensures c.write-2.ensures
