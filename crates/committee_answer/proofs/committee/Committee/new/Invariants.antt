use Rattle.std.proofs.Common.{◌≡◌, take, length}
use Rattle.seat_race.specs.Tables.{AreMarks}
use Rattle.committee_answer.proofs.committee.Committee.new.Given as goal

abbrev pub invariant-loop-member : goal.invariant-loop-member
invariant-loop-member l = AreMarks l.is_member.items (take l.member-index l.members) × (length l.is_member.items ≡ length l.snapshot.targets)
