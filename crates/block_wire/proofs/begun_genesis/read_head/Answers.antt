use Rattle.std.proofs.lemmas.Result.{err_from_is_err_and}
use Rattle.block_wire.proofs.GenesisLemmas.{count_fault}
use Rattle.block_wire.proofs.begun_genesis.read_head.Goals as goal

pub returns-in_err-count : goal.returns-in_err-count
returns-in_err-count c =
    let p = err_from_is_err_and c.from_residual-in_err-count.result c.from_residual-in_err-count.ensures.1 in
    rw (p.1, p.2) (count_fault c.args.cursor.now c.take_tag.new.self c.take_length.new.self c.in_ok-tag.tag c.in_err-count.field-0.0 c.in_ok-tag.ensures c.in_err-count.ensures)
