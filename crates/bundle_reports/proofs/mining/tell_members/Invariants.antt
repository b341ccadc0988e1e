use Rattle.std.proofs.Common.{◌≡◌, ◌++◌, take, flat_map}
use Rattle.bundle_reports.specs.Mining.{line_of}
use Rattle.bundle_reports.proofs.mining.tell_members.Given as goal

-- the lines of the members so far
abbrev pub invariant-loop-member : goal.invariant-loop-member
invariant-loop-member l = l.text.items ≡ l.fn.text.items ++ flat_map (line_of l.snapshot l.weights.plain) (take l.member-index l.weights.plain.committee)
