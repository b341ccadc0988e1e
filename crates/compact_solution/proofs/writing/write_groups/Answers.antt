use Rattle.std.proofs.Common.{length, subst, sym}
use Rattle.std.proofs.lemmas.Result.{err_from_is_err_and}
use Rattle.compact_solution.specs.Solution.{group_form}
use Rattle.compact_solution.proofs.Readers.{row_item}
use Rattle.compact_solution.proofs.Writers.{row_front, row_written}
use Rattle.compact_solution.proofs.writing.write_groups.Goals as goal

pub write_group-requires : goal.write_group-requires
write_group-requires c =
    let x = c.index-groups-shares.result in
    subst (λ y. (group_form c.loop-shares.shares).in_range y) (sym c.index-groups-shares.is)
    (row_item group_form (length c.args.groups.now) c.args.groups.now c.loop-shares.shares x c.requires c.loop-shares-test.true)

pub returns-in_err-write_group : goal.returns-in_err-write_group
returns-in_err-write_group c =
    let p = err_from_is_err_and c.from_residual.result c.from_residual.ensures.1 in
    rw p.1 (row_front group_form c.args.groups.now c.loop-shares.shares c.index-groups-shares.result c.loop-shares-test.true c.index-groups-shares.is
    c.args.pen.now c.loop-shares.pen c.write_group.new.pen c.loop-shares.invariant c.in_err-write_group.ensures)

pub loop-shares-preserved : goal.loop-shares-preserved
loop-shares-preserved c =
    row_written group_form c.args.groups.now c.loop-shares.shares c.index-groups-shares.result c.loop-shares-test.true c.index-groups-shares.is
    c.args.pen.now c.loop-shares.pen c.write_group.new.pen c.loop-shares.invariant c.in_ok-write_group.ensures
