use Rattle.std.proofs.lemmas.Result.{err_from_is_err_and}
use Rattle.scale_wire.proofs.ReadLemmas.{front_more, front_behind, second_front, third_written, writes_behind}
use Rattle.block_wire.proofs.bundle.BundleWire.write.Goals as goal

pub returns-in_err-write : goal.returns-in_err-write
returns-in_err-write c =
    let p = err_from_is_err_and c.from_residual.result c.from_residual.ensures.1 in
    rw p.1 (front_more _ _ c.args.pen.now c.write.new.pen c.in_err-write.ensures)

pub returns-in_err-write_list : goal.returns-in_err-write_list
returns-in_err-write_list c =
    let p = err_from_is_err_and c.from_residual-in_err-write_list.result c.from_residual-in_err-write_list.ensures.1 in
    rw p.1 (second_front _ _ _ c.args.pen.now c.write.new.pen c.write_list.new.pen c.in_ok-write.ensures c.in_err-write_list.ensures)

pub returns-in_err-write_list-2 : goal.returns-in_err-write_list-2
returns-in_err-write_list-2 c =
    let p = err_from_is_err_and c.from_residual-in_err-write_list-2.result c.from_residual-in_err-write_list-2.ensures.1 in
    rw p.1 (front_behind _ _ c.args.pen.now c.write.new.pen c.write_list-2.new.pen c.in_ok-write.ensures
    (second_front _ _ _ c.write.new.pen c.write_list.new.pen c.write_list-2.new.pen c.in_ok-write_list.ensures c.in_err-write_list-2.ensures))

pub returns : goal.returns
returns c = writes_behind _ _ c.args.pen.now c.write.new.pen c.write-2.result c.write-2.new.pen c.in_ok-write.ensures
    (third_written _ _ _ c.write.new.pen c.write_list.new.pen c.write_list-2.new.pen c.write-2.result c.write-2.new.pen c.in_ok-write_list.ensures c.in_ok-write_list-2.ensures c.write-2.ensures)
