-- the reasons of a refusal have the numbers 1 to 6
use Rattle.std.specs.Prelude.{ℕ}
use Rattle.scale_wire.specs.declared.fault.Why.{Why}
use Rattle.scale_wire.specs.declared.fault.Why.TheVariants.{Short, NotShortest, TooWide, BadTag, TooMany, Trailing}

abbrev pub why_number : Why → ℕ
why_number Short = 1
why_number NotShortest = 2
why_number TooWide = 3
why_number BadTag = 4
why_number TooMany = 5
why_number Trailing = 6
