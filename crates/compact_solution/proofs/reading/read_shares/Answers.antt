use Rattle.std.proofs.lemmas.Result.{err_from_is_err_and}
use Rattle.scale_wire.specs.declared.fault.ReadFault.TheVariants.{Wire}
use Rattle.scale_wire.proofs.ListLemmas.{items_err}
use Rattle.compact_solution.specs.Solution.{share_form}
use Rattle.compact_solution.proofs.reading.read_shares.Goals as goal

pub returns-in_err-take_share : goal.returns-in_err-take_share
returns-in_err-take_share c =
    let p = err_from_is_err_and c.from_residual-in_err-take_share.result c.from_residual-in_err-take_share.ensures.1 in
    rw (p.1, p.2) (items_err share_form c.args.count c.loop.counter c.args.cursor.now c.fork-here.result c.loop.here
    c.take_share.new.cursor c.loop.shares.items (Wire c.in_err-take_share.field-0.0) c.fork-here.ensures
    c.loop-test.true c.loop.invariant.read c.in_err-take_share.ensures)
