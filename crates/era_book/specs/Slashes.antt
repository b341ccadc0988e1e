-- What is due from those who back a validator that misbehaved.
use Rattle.std.specs.Prelude.{ℕ, ◌-◌, List, map}
use Rattle.npos_base.specs.declared.limits.TheConstants.{WHOLE_FRACTION}
use Rattle.era_book.specs.declared.exposure.Backer.{Backer}
use Rattle.era_book.specs.Payouts.{part, line, kept_lines}

-- what is due of an amount where a fraction is reported after a smaller one that is kept: what the
-- greater fraction is more than the kept one
abbrev pub due : ℕ → ℕ → ℕ → ℕ
due amount kept fraction = part amount fraction WHOLE_FRACTION - part amount kept WHOLE_FRACTION

-- the lines of a report, in the order of the backers
abbrev pub slash_lines : List Backer → ℕ → ℕ → List Backer
slash_lines backers kept fraction =
    kept_lines (map (λ backer. line backer.who (due backer.amount kept fraction)) backers)
