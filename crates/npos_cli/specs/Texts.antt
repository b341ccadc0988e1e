-- The lines of faults that a replay of a chain alone has.
use Rattle.std.specs.Prelude.{ℕ, List, [], ◌++◌, codes, decimal, Option, Some, None}
use Rattle.told_lines.specs.Texts.{newline}

-- the genesis has the fault of this number, with this detail; a fault without numbers has no line
abbrev pub genesis_line : Option (ℕ × ℕ) → List ℕ
genesis_line None = []
genesis_line (Some fault) =
    codes "fault 0 genesis " ++ (decimal fault.0 ++ (codes " " ++ (decimal fault.1 ++ newline)))
