use Rattle.std.proofs.Common.{◌≡◌, List, ℕ, ◌++◌, subst, ◌∙◌, ap}
use Rattle.scale_wire.specs.Reading.{Writes}
use Rattle.scale_wire.specs.Composite.{row_bytes}
use Rattle.scale_wire.proofs.ReadLemmas.{writes_behind}
use Rattle.compact_solution.specs.Solution.{is_wide, group_form}
use Rattle.compact_solution.specs.Widths.{mark_before}
use Rattle.compact_solution.proofs.WidthLemmas.{groups_row, solution_spelled, wide_by_count}
use Rattle.compact_solution.proofs.writing.write_solution.Goals as goal

pub write_groups-requires : goal.write_groups-requires
write_groups-requires c = groups_row c.args.groups.now c.requires

pub returns : goal.returns
returns c =
    let marked : c.write_mark.new.pen ≡ c.args.pen.now ++ mark_before (is_wide c.args.groups.now) =
    c.in_ok-write_mark.ensures ∙ ap (λ wide. c.args.pen.now ++ mark_before wide) (wide_by_count c.args.groups.now) in
    subst (λ (s : List ℕ). Writes s c.args.pen.now c.write_groups.result c.write_groups.new.pen) (solution_spelled c.args.groups.now)
    (writes_behind (mark_before (is_wide c.args.groups.now)) (row_bytes group_form 0 c.args.groups.now) c.args.pen.now
    c.write_mark.new.pen c.write_groups.result c.write_groups.new.pen marked c.write_groups.ensures)
