use Rattle.std.proofs.lemmas.Result.{err_from_is_err_and}
use Rattle.scale_wire.proofs.ReadLemmas.{fields_err}
use Rattle.block_wire.specs.Genesis.{geneses, genesis_choice}
use Rattle.block_wire.proofs.genesis.GenesisWire.read.Goals as goal

pub returns-in_err-genesis : goal.returns-in_err-genesis
returns-in_err-genesis c =
    let p = err_from_is_err_and c.from_residual-in_err-genesis.result c.from_residual-in_err-genesis.ensures.1 in
    rw (p.1, p.2)
    (fields_err geneses genesis_choice c.args.cursor.now c.fork-here.result c.take_tag.new.self c.read_fields.new.cursor
    c.in_ok-tag.tag c.in_err-genesis.field-0.0 c.fork-here.ensures c.in_ok-tag.ensures c.in_err-genesis.ensures)
