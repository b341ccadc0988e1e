use Rattle.election_check.proofs.StepLemmas.{AreChecked}
use Rattle.election_check.proofs.plain.check_members.Given as goal

-- the members so far had no fault and are marked
abbrev pub invariant-loop-member : goal.invariant-loop-member
invariant-loop-member l = AreChecked l.snapshot l.members l.member-index l.is_member
