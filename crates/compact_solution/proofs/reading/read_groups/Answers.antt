use Rattle.std.proofs.Common.{arith}
use Rattle.std.proofs.lemmas.Result.{err_from_is_err_and}
use Rattle.compact_solution.specs.Solution.{group_form}
use Rattle.compact_solution.proofs.Readers.{row_err, row_read}
use Rattle.compact_solution.proofs.reading.read_groups.Goals as goal

pub returns-in_err-read_group : goal.returns-in_err-read_group
returns-in_err-read_group c =
    let p = err_from_is_err_and c.from_residual-in_err-read_group.result c.from_residual-in_err-read_group.ensures.1 in
    rw (p.1, p.2) (row_err group_form c.args.count c.loop-shares.shares c.args.cursor.now c.fork-here.result
    c.loop-shares.here c.read_group.new.cursor c.loop-shares.groups.items c.in_err-read_group.field-0.0
    c.fork-here.ensures (omega arith) c.loop-shares.invariant c.in_err-read_group.ensures)

pub loop-shares-preserved : goal.loop-shares-preserved
loop-shares-preserved c =
    rw c.in_ok-push.ensures.items (row_read group_form c.loop-shares.shares c.fork-here.result c.loop-shares.here
    c.read_group.new.cursor c.loop-shares.groups.items c.in_ok-read_group.field-0 c.loop-shares.invariant
    c.in_ok-read_group.ensures)
