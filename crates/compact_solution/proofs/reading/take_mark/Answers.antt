use Rattle.std.proofs.Common.{◌≡◌, arith, false, true, nat_eq, sym, ◌∙◌, ap}
use Rattle.std.proofs.lemmas.Bool.Decides.{nat_tests}
use Rattle.scale_wire.specs.Marked.{begins_with}
use Rattle.compact_solution.specs.declared.entry.TheConstants.{WIDE_MARK}
use Rattle.compact_solution.specs.Widths.{behind_mark}
use Rattle.compact_solution.proofs.WidthLemmas.{mark_tells, mark_passed}
use Rattle.compact_solution.proofs.reading.take_mark.Goals as goal

pub returns-then-first-clause-wide : goal.returns-then-first-clause-wide
returns-then-first-clause-wide c =
    let other : nat_eq c.in-Ok.first WIDE_MARK ≡ false = grind (arith, nat_tests, c.if-first.true) in
    sym (ap (λ place. begins_with WIDE_MARK place.rest) (sym c.fork-here.ensures)
    ∙ (mark_tells c.fork-here.result c.take_u8.new.self c.in-Ok.first c.in-Ok.ensures ∙ other))

pub returns-clause-wide : goal.returns-clause-wide
returns-clause-wide c =
    let same : nat_eq c.in-Ok.first WIDE_MARK ≡ true = grind (arith, nat_tests, c.if-first.false) in
    sym (ap (λ place. begins_with WIDE_MARK place.rest) (sym c.fork-here.ensures)
    ∙ (mark_tells c.fork-here.result c.take_u8.new.self c.in-Ok.first c.in-Ok.ensures ∙ same))

pub returns-clause-place : goal.returns-clause-place
returns-clause-place c =
    mark_passed c.fork-here.result c.take_u8.new.self c.in-Ok.first c.in-Ok.ensures ∙ ap (behind_mark true) c.fork-here.ensures
