use Rattle.std.proofs.Common.{◌≡◌, ◌∙◌, ap, arith}
use Rattle.std.proofs.lemmas.Bool.Decides.{nat_tests}
use Rattle.std.proofs.lemmas.List.{take_all}
use Rattle.era_book.specs.Exposures.{amount_sum}
use Rattle.state_rules.proofs.eras.are_too_much.Goals as goal

pub returns : goal.returns
returns c =
    let whole : c.loop-line.sum ≡ amount_sum c.args.lines.now =
    c.loop-line.invariant.is ∙ ap amount_sum (take_all c.loop-line.line-index c.args.lines.now (omega arith)) in
    let fits = c.loop-line.invariant.fits in
    grind (arith, nat_tests, whole, fits)
