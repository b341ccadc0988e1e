use Rattle.std.proofs.Common.{◌≡◌, ◌-◌, ◌++◌}
use Rattle.std.specs.List.{flat_map, range_with_len}
use Rattle.told_lines.specs.Texts.{ok_line}
use Rattle.told_lines.proofs.whole.tell_far_oks.Given as goal

-- the lines of the places so far
abbrev pub invariant-loop-index : goal.invariant-loop-index
invariant-loop-index l = l.text.items ≡ l.fn.text.items ++ flat_map ok_line (range_with_len l.first (l.index - l.first))
