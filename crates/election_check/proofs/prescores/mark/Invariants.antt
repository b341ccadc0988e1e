use Rattle.std.proofs.Common.{◌≡◌, length, take}
use Rattle.election_check.specs.Kept.{AreMarks}
use Rattle.election_check.proofs.prescores.mark.Given as goal

-- the members so far are marked
abbrev pub invariant-loop-member : goal.invariant-loop-member
invariant-loop-member l = AreMarks l.is_member (take l.member-index l.members) × (length l.is_member ≡ length l.fn.is_member)
