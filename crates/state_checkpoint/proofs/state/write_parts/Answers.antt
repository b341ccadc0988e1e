use Rattle.std.proofs.lemmas.Result.{err_from_is_err_and}
use Rattle.scale_wire.proofs.ReadLemmas.{front_more, second_front, third_written}
use Rattle.state_checkpoint.proofs.state.write_parts.Goals as goal

pub returns-in_err-write_head : goal.returns-in_err-write_head
returns-in_err-write_head c =
    let p = err_from_is_err_and c.from_residual.result c.from_residual.ensures.1 in
    rw p.1 (front_more _ _ c.args.pen.now c.write_head.new.pen c.in_err-write_head.ensures)

pub returns-in_err-write_runs : goal.returns-in_err-write_runs
returns-in_err-write_runs c =
    let p = err_from_is_err_and c.from_residual-in_err-write_runs.result c.from_residual-in_err-write_runs.ensures.1 in
    rw p.1 (second_front _ _ _ c.args.pen.now c.write_head.new.pen c.write_runs.new.pen c.in_ok-write_head.ensures c.in_err-write_runs.ensures)

pub returns : goal.returns
returns c = third_written _ _ _ c.args.pen.now c.write_head.new.pen c.write_runs.new.pen c.write_tail.result
    c.write_tail.new.pen c.in_ok-write_head.ensures c.in_ok-write_runs.ensures c.write_tail.ensures
