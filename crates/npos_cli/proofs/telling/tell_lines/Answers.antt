use Rattle.std.proofs.Common.{◌++◌, take, drop, length-drop, flat_map, arith, ap, ◌∙◌}
use Rattle.std.proofs.lemmas.List.{take_rest}
use Rattle.npos_cli.specs.Chain.{line_text}
use Rattle.npos_cli.proofs.LineLaws.{text_on}
use Rattle.npos_cli.proofs.telling.tell_lines.Goals as goal

pub loop-at-preserved : goal.loop-at-preserved
loop-at-preserved c =
    let at = c.loop-at.at in
    let count = c.in_ok-at.field-0 in (
      c.in_ok-at.ensures.told
          ∙ ap (λ l. c.loop-at.text.items ++ flat_map line_text (take count l)) (take_rest c.args.lines.now at)
          ∙ ap (λ l. l ++ flat_map line_text (take count (drop at c.args.lines.now))) c.loop-at.invariant.0
          ∙ text_on c.args.text.now.items c.args.lines.now at count,
      omega (arith, c.in_ok-at.ensures.within, length-drop at c.args.lines.now),
    )
