use Rattle.std.proofs.Common.{◌≡◌, ◌+◌, ◌∷◌, [], ◌++◌, take, arith, ap, ◌∙◌}
use Rattle.std.proofs.lemmas.List.{take_more}
use Rattle.block_receipts.specs.declared.line.Line.TheVariants as lines
use Rattle.npos_cli.proofs.LineLaws.{run_on}
use Rattle.npos_cli.proofs.telling.accepted.Goals as goal

pub loop-line-preserved : goal.loop-line-preserved
loop-line-preserved c =
    let at = c.loop-line.line-index in
    let here : c.in-CallOk.index ≡ c.args.first + at = omega arith in (
      omega arith,
      take_more c.args.rest.now at (lines.Block 0) (omega arith)
          ∙ ap (λ x. take at c.args.rest.now ++ x ∷ []) (c.in-CallOk.is ∙ ap (λ n. lines.CallOk n) here)
          ∙ run_on (take at c.args.rest.now) c.args.first at c.loop-line.invariant.1,
    )
