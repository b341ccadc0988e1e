use Rattle.std.proofs.lemmas.Result.{err_from_is_err_and}
use Rattle.scale_wire.proofs.ListLemmas.{list_err}
use Rattle.npos_base.specs.declared.limits.TheConstants.{MOST_VOTERS}
use Rattle.compact_solution.specs.Solution.{entry_form}
use Rattle.compact_solution.proofs.reading.read_group.Goals as goal

pub returns-in_err-entries : goal.returns-in_err-entries
returns-in_err-entries c =
    let p = err_from_is_err_and c.from_residual-in_err-entries.result c.from_residual-in_err-entries.ensures.1 in
    rw (p.1, p.2) (list_err (entry_form c.args.shares) MOST_VOTERS c.args.cursor.now c.fork-here.result
    c.take_length.new.self c.read_entries.new.cursor c.in_ok-count.count c.in_err-entries.field-0.0
    c.fork-here.ensures c.in_ok-count.ensures c.in_err-entries.ensures)
