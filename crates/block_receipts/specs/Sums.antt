-- What lines tell of units that came into being, and of units that are gone.
use Rattle.std.specs.Prelude.{ℕ, List, sum_by}
use Rattle.block_receipts.specs.declared.line.Line.{Line}
use Rattle.block_receipts.specs.declared.line.Line.TheVariants as lines

-- a reward and each payment of an era are made of new units
abbrev pub mints : Line → ℕ
mints (lines.Reward number amount) = amount
mints (lines.Paid who amount) = amount
mints other = 0

-- a deposit that is lost and what a slash takes are gone
abbrev pub burns : Line → ℕ
burns (lines.Forfeit number deposit verdict) = deposit
burns (lines.Slashed who amount) = amount
burns other = 0

abbrev pub told_minted : List Line → ℕ
told_minted told = sum_by mints told

abbrev pub told_burned : List Line → ℕ
told_burned told = sum_by burns told
