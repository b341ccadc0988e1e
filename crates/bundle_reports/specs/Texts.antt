-- The line of bytes that are refused.
use Rattle.std.specs.Prelude.{ℕ, List, ◌++◌, codes, decimal}
use Rattle.scale_wire.specs.declared.fault.Why.{Why}
use Rattle.scale_wire.specs.declared.fault.Why.TheVariants.{Short, NotShortest, TooWide, BadTag, TooMany, Trailing}
use Rattle.told_lines.specs.Texts.{newline}

abbrev pub word_of : Why → List ℕ
word_of Short = codes "short"
word_of NotShortest = codes "notshortest"
word_of TooWide = codes "toowide"
word_of BadTag = codes "badtag"
word_of TooMany = codes "toomany"
word_of Trailing = codes "trailing"

-- the bytes from this place on are refused
abbrev pub fault_line : ℕ → Why → List ℕ
fault_line at why = codes "fault " ++ (decimal at ++ (codes " " ++ (word_of why ++ newline)))
