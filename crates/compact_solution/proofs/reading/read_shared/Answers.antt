use Rattle.std.proofs.lemmas.Result.{err_from_is_err_and}
use Rattle.scale_wire.proofs.ListLemmas.{items_err}
use Rattle.compact_solution.specs.Solution.{entry_form}
use Rattle.compact_solution.proofs.reading.read_shared.Goals as goal

pub returns-in_err-read_entry : goal.returns-in_err-read_entry
returns-in_err-read_entry c =
    let p = err_from_is_err_and c.from_residual-in_err-read_entry.result c.from_residual-in_err-read_entry.ensures.1 in
    rw (p.1, p.2) (items_err (entry_form c.args.shares) c.args.count c.loop.counter c.args.cursor.now
    c.fork-here.result c.loop.here c.read_entry.new.cursor c.loop.entries.items c.in_err-read_entry.field-0.0
    c.fork-here.ensures c.loop-test.true c.loop.invariant c.in_err-read_entry.ensures)
