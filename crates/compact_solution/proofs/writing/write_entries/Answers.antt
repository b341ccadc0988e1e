use Rattle.std.proofs.lemmas.Result.{err_from_is_err_and}
use Rattle.scale_wire.proofs.ListLemmas.{items_front}
use Rattle.compact_solution.specs.Solution.{entry_form}
use Rattle.compact_solution.proofs.writing.write_entries.Goals as goal

pub returns-in_err-write_entry : goal.returns-in_err-write_entry
returns-in_err-write_entry c =
    let p = err_from_is_err_and c.from_residual.result c.from_residual.ensures.1 in
    rw p.1 (items_front (entry_form c.args.shares).spelling c.args.entries.now c.loop-entry.entry-index
    c.entry-item.result c.args.pen.now c.loop-entry.pen c.write_entry.new.pen c.loop-entry-test.true
    c.entry-item.is c.loop-entry.invariant c.in_err-write_entry.ensures)
