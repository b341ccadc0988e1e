use Rattle.std.proofs.Common.{◌≡◌, ◌++◌, take, flat_map}
use Rattle.committee_judge.specs.Reports.{target_line}
use Rattle.committee_judge.proofs.telling.tell_members.Given as goal

-- the lines of the members so far
abbrev pub invariant-loop-member : goal.invariant-loop-member
invariant-loop-member l = l.text.items ≡ l.fn.text.items ++ flat_map (target_line l.snapshot) (take l.member-index l.members)
