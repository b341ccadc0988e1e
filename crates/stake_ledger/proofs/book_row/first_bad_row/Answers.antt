use Rattle.std.proofs.Common.{◌≡◌, ap, sym, ◌∙◌, drop, get_or, true, false, ◌+◌}
use Rattle.std.specs.declared.option.Option.TheVariants.{None, Some}
use Rattle.std.proofs.lemmas.List.{drop_all}
use Rattle.stake_ledger.specs.declared.book_row.BookRow.{BookRow}
use Rattle.stake_ledger.specs.BookRows.{first_bad_row, is_bad_row}
use Rattle.stake_ledger.proofs.BookRowLemmas.{found_behind, none_passed, next_row, bad_here}
use Rattle.stake_ledger.proofs.book_row.first_bad_row.Goals as goal

pub loop-place-init : goal.loop-place-init
loop-place-init c = none_passed (first_bad_row None c.args.rows.now)

pub returns-then-is_bad_row : goal.returns-then-is_bad_row
returns-then-is_bad_row c =
    let bad : is_bad_row c.loop-place.before (get_or c.args.rows.now c.loop-place.place c.index-rows-place.result) ≡ true =
    ap (is_bad_row c.loop-place.before) (sym c.index-rows-place.is) ∙ (sym c.is_bad_row.ensures ∙ c.if-is_bad_row.true) in
    sym (bad_here c.loop-place.before c.args.rows.now c.loop-place.place c.index-rows-place.result c.loop-place-test.true bad) ∙ c.loop-place.invariant

pub loop-place-preserved : goal.loop-place-preserved
loop-place-preserved c =
    let good : is_bad_row c.loop-place.before (get_or c.args.rows.now c.loop-place.place c.index-rows-place.result) ≡ false =
    ap (is_bad_row c.loop-place.before) (sym c.index-rows-place.is) ∙ (sym c.is_bad_row.ensures ∙ c.if-is_bad_row.false) in
    ap (λ (row : BookRow). found_behind (c.loop-place.place + 1) (first_bad_row (Some row.who) (drop (c.loop-place.place + 1) c.args.rows.now))) c.index-rows-place.is
    ∙ (sym (next_row c.loop-place.before c.args.rows.now c.loop-place.place c.index-rows-place.result c.loop-place-test.true good) ∙ c.loop-place.invariant)

pub returns : goal.returns
returns c =
    sym (ap (λ rest. found_behind c.loop-place.place (first_bad_row c.loop-place.before rest)) (drop_all c.loop-place.place c.args.rows.now c.loop-place-test.false)) ∙ c.loop-place.invariant
