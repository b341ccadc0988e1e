use Rattle.std.proofs.Common.{arith}
use Rattle.told_lines.proofs.DigitLemmas.{pairs_at}
use Rattle.told_lines.proofs.accounts.pair_of.Goals as goal

pub returns : goal.returns
returns c =
    let pair = pairs_at c.args.byte (omega arith) in
    omega (arith, c.from_le_bytes.ensures, pair.0, pair.1)
