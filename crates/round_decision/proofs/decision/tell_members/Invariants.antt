use Rattle.std.proofs.Common.{◌≡◌, ◌++◌, take, map}
use Rattle.round_decision.specs.Decision.{member_line}
use Rattle.round_decision.proofs.decision.tell_members.Given as goal

abbrev pub invariant-loop-member : goal.invariant-loop-member
invariant-loop-member l =
    l.lines.items ≡ l.fn.lines.items ++ map (member_line l.fn.elected.snapshot l.fn.elected.weights.plain) (take l.member-index l.member-items)
