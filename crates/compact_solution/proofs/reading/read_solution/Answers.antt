use Rattle.std.specs.Prelude.{Err}
use Rattle.std.proofs.Common.{subst}
use Rattle.std.proofs.lemmas.Result.{err_from_is_err_and}
use Rattle.scale_wire.specs.Reading.{IsRead, Reads}
use Rattle.compact_solution.specs.Solution.{groups_form}
use Rattle.compact_solution.proofs.WidthLemmas.{solution_read, solution_err}
use Rattle.compact_solution.proofs.reading.read_solution.Goals as goal

pub returns-in_err-groups : goal.returns-in_err-groups
returns-in_err-groups c =
    let p = err_from_is_err_and c.from_residual.result c.from_residual.ensures.1 in
    rw (p.1, p.2) (solution_err c.take_mark-wide.result c.args.cursor.now c.fork-here.result
    c.take_mark-wide.new.cursor c.read_groups.new.cursor c.in_err-groups.field-0.0 c.fork-here.ensures
    c.take_mark-wide.ensures.wide c.take_mark-wide.ensures.place
    (subst (λ n. Reads (groups_form n) c.take_mark-wide.new.cursor (Err c.in_err-groups.field-0.0) c.read_groups.new.cursor) c.groups_in.ensures.number c.in_err-groups.ensures))

pub returns : goal.returns
returns c =
    solution_read c.take_mark-wide.result c.args.cursor.now c.fork-here.result c.take_mark-wide.new.cursor
    c.read_groups.new.cursor c.in_ok-groups.groups c.fork-here.ensures c.take_mark-wide.ensures.wide
    c.take_mark-wide.ensures.place
    (subst (λ n. IsRead (groups_form n) c.take_mark-wide.new.cursor c.in_ok-groups.groups c.read_groups.new.cursor) c.groups_in.ensures.number c.in_ok-groups.ensures)
