use Rattle.std.proofs.Common.{arith, rules, ◌≡◌, ◌∙◌, sym, subst, ◌+◌, ◌-◌, ◌<◌, ◌%◌, nat_eq, drop, length, false, slice_index_or}
use Rattle.std.specs.List.{list_any}
use Rattle.std.proofs.lemmas.Bool.{or_from}
use Rattle.voter_lists.specs.Marks.{unknown, has_repeated_mark}
use Rattle.voter_lists.proofs.ClassLemmas.{AreMet, met_more, repeats_here, repeats_not, unmet_absent}
use Rattle.voter_lists.proofs.roles.doubts.Goals as goal
use Rattle.voter_lists.proofs.roles.doubts.Goals.{else-is_met-class-via-then-is_met-class+else-stands_again, else-is_met-class-via-else-is_met-class}

pub returns-then-stands_again : goal.returns-then-stands_again
returns-then-stands_again c =
    rw (sym (repeats_here c.args.marks.now (c.loop-i.i - 1) (omega arith) (sym c.stands_again.ensures ∙ c.if-stands_again.true))) (grind arith)

pub returns-else-is_met : goal.returns-else-is_met
returns-else-is_met c =
    let marks = c.args.marks.now in
    let start : c.loop-i.i ≡ 0 = omega arith in
    let known = unmet_absent marks 0 unknown c.loop-i.is_met (subst (λ n. AreMet marks n c.loop-i.is_met) start c.loop-i.invariant.1) c.if-is_met.false in
    c.if-is_met.false ∙ sym (or_from (list_any (λ mark. nat_eq mark unknown) marks) (has_repeated_mark marks) known (subst (λ n. has_repeated_mark (drop n marks) ≡ false) start c.loop-i.invariant.0))

pub loop-i-preserved : goal.loop-i-preserved
loop-i-preserved c =
    let marks = c.args.marks.now in
    let i = c.loop-i.i in
    let next : i ≡ (i - 1) + 1 = omega arith in
    let inside : i - 1 < length marks = omega arith in
    let mark = slice_index_or marks (i - 1) 0 in
    let absent : (slice_index_or c.loop-i.is_met (mark % 256) false ≡ false) → list_any (λ other. nat_eq other mark) (drop i marks) ≡ false =
    λ unmet. unmet_absent marks i mark c.loop-i.is_met c.loop-i.invariant.1 unmet in
    let once : list_any (λ other. nat_eq other (slice_index_or marks (i - 1) 0)) (drop (i - 1 + 1) marks) ≡ false =
    elim c.else-is_met-class.branch [
      | else-is_met-class-via-then-is_met-class+else-stands_again w ↦ sym
          w.stands_again.ensures ∙ w.if-stands_again.false
      | else-is_met-class-via-else-is_met-class w ↦ subst
          (λ n. list_any (λ other. nat_eq other mark) (drop n marks) ≡ false) next (absent w.if-is_met-class.false)
    ]
    in (
      repeats_not marks i (i - 1) next inside once c.loop-i.invariant.0,
      met_more marks i (i - 1) c.loop-i.is_met next c.loop-i.invariant.2 c.loop-i.invariant.1,
      search rules,
    )
