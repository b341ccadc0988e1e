use Rattle.std.proofs.Common.{◌≡◌, ◌++◌, take, flat_map}
use Rattle.committee_judge.specs.Reports.{voter_line}
use Rattle.committee_judge.proofs.telling.tell_voters.Given as goal

-- the lines of the voters so far
abbrev pub invariant-loop-voter : goal.invariant-loop-voter
invariant-loop-voter l = l.text.items ≡ l.fn.text.items ++ flat_map (voter_line l.snapshot) (take l.voter-index l.group)
