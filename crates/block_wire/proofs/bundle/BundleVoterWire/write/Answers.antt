use Rattle.std.proofs.lemmas.Result.{err_from_is_err_and}
use Rattle.scale_wire.proofs.ReadLemmas.{front_more, second_front, third_written}
use Rattle.block_wire.proofs.bundle.BundleVoterWire.write.Goals as goal

pub returns-in_err-write : goal.returns-in_err-write
returns-in_err-write c =
    let p = err_from_is_err_and c.from_residual.result c.from_residual.ensures.1 in
    rw p.1 (front_more _ _ c.args.pen.now c.write.new.pen c.in_err-write.ensures)

pub returns-in_err-write-2 : goal.returns-in_err-write-2
returns-in_err-write-2 c =
    let p = err_from_is_err_and c.from_residual-in_err-write-2.result c.from_residual-in_err-write-2.ensures.1 in
    rw p.1 (second_front _ _ _ c.args.pen.now c.write.new.pen c.write-2.new.pen c.in_ok-write.ensures c.in_err-write-2.ensures)

pub returns : goal.returns
returns c = third_written _ _ _ c.args.pen.now c.write.new.pen c.write-2.new.pen c.write_list.result c.write_list.new.pen c.in_ok-write.ensures c.in_ok-write-2.ensures c.write_list.ensures
