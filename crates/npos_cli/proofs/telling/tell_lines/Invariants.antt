use Rattle.std.proofs.Common.{◌≡◌, ◌≤◌, ◌-◌, ◌++◌, take, length}
use Rattle.std.specs.List.{flat_map}
use Rattle.npos_cli.specs.Chain.{line_text}
use Rattle.npos_cli.proofs.telling.tell_lines.Given as goal

-- the lines up to this place
abbrev pub invariant-loop-at : goal.invariant-loop-at
invariant-loop-at l = (l.text.items ≡ l.fn.text.items ++ flat_map line_text (take l.at l.lines))
    × (l.at ≤ length l.lines)

abbrev pub decreases-loop-at : goal.decreases-loop-at
decreases-loop-at l = length l.lines - l.at
