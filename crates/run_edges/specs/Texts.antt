-- The line of a number that is not the due one.
use Rattle.std.specs.Prelude.{ℕ, List, ◌++◌, codes, decimal}
use Rattle.told_lines.specs.Texts.{newline}

-- at this place stands the number of a block that is not the due one
abbrev pub number_line : ℕ → ℕ → ℕ → List ℕ
number_line at due found =
    codes "fault " ++ (decimal at ++ (codes " number due "
    ++ (decimal due ++ (codes " found " ++ (decimal found ++ newline)))))
