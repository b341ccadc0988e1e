use Rattle.std.proofs.lemmas.Result.{err_from_is_err_and}
use Rattle.scale_wire.proofs.ReadLemmas.{front_more, writes_behind}
use Rattle.stake_pools.proofs.input.PoolGenesisWire.write.Goals as goal

pub returns-in_err-write_list : goal.returns-in_err-write_list
returns-in_err-write_list c =
    let p = err_from_is_err_and c.from_residual.result c.from_residual.ensures.1 in
    rw p.1 (front_more _ _ c.args.pen.now c.write_list.new.pen c.in_err-write_list.ensures)

pub returns : goal.returns
returns c = writes_behind _ _ c.args.pen.now c.write_list.new.pen c.write_both.result c.write_both.new.pen c.in_ok-write_list.ensures c.write_both.ensures
