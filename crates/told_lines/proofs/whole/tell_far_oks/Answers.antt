use Rattle.std.proofs.Common.{◌≡◌, ◌-◌, ◌++◌, arith, ap, sym, subst, ◌∙◌}
use Rattle.std.specs.List.{flat_map, range_with_len}
use Rattle.told_lines.specs.Texts.{ok_line, Keeps}
use Rattle.told_lines.proofs.KeptLemmas.{kept_behind, kept_on}
use Rattle.told_lines.proofs.LineLemmas.{run_more}
use Rattle.told_lines.proofs.whole.tell_far_oks.Goals as goal

pub returns-in_err-tell_ok-clause-kept : goal.returns-in_err-tell_ok-clause-kept
returns-in_err-tell_ok-clause-kept c =
    let before = c.args.text.now.items in
    kept_on before c.loop-index.text.items c.tell_ok.new.text.items
    (subst (Keeps before) (sym c.loop-index.invariant)
    (kept_behind before (flat_map ok_line (range_with_len c.args.first (c.loop-index.index - c.args.first)))))
    c.tell_ok.ensures.kept

pub loop-index-preserved : goal.loop-index-preserved
loop-index-preserved c =
    c.in_ok-tell_ok.ensures.text
    ∙ ap (λ l. l ++ ok_line c.loop-index.index) c.loop-index.invariant
    ∙ run_more c.args.text.now.items c.args.first c.loop-index.index (omega arith)

pub returns-clause-text : goal.returns-clause-text
returns-clause-text c =
    let count : c.loop-index.index - c.args.first ≡ c.args.end - c.args.first = omega arith in
    c.loop-index.invariant
    ∙ ap (λ n. c.args.text.now.items ++ flat_map ok_line (range_with_len c.args.first n)) count
