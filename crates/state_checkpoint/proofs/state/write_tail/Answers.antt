use Rattle.std.proofs.lemmas.Result.{err_from_is_err_and}
use Rattle.scale_wire.proofs.ReadLemmas.{front_more, second_front, third_written}
use Rattle.state_checkpoint.proofs.state.write_tail.Goals as goal

pub returns-in_err-write : goal.returns-in_err-write
returns-in_err-write c =
    let p = err_from_is_err_and c.from_residual.result c.from_residual.ensures.1 in
    rw p.1 (front_more _ _ c.args.pen.now c.write.new.pen c.in_err-write.ensures)

pub returns-in_err-write_both_by : goal.returns-in_err-write_both_by
returns-in_err-write_both_by c =
    let p = err_from_is_err_and c.from_residual-in_err-write_both_by.result c.from_residual-in_err-write_both_by.ensures.1 in
    rw p.1 (second_front _ _ _ c.args.pen.now c.write.new.pen c.write_both_by.new.pen c.in_ok-write.ensures c.in_err-write_both_by.ensures)

pub returns : goal.returns
returns c = third_written _ _ _ c.args.pen.now c.write.new.pen c.write_both_by.new.pen c.write_waits.result
    c.write_waits.new.pen c.in_ok-write.ensures c.in_ok-write_both_by.ensures c.write_waits.ensures
