use Rattle.std.proofs.Common.{arith, ◌∙◌}
use Rattle.told_lines.proofs.DigitLemmas.{digits_stored}
use Rattle.told_lines.proofs.accounts.digits_of.Goals as goal

pub returns : goal.returns
returns c = c.to_le_bytes.ensures ∙ digits_stored c.args.first c.args.second c.args.third c.args.fourth _ (omega arith)
