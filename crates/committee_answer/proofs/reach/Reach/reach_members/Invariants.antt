use Rattle.std.proofs.Common.{◌≡◌, ◌<◌, true, false}
use Rattle.committee_answer.specs.Ways.{IsReach, StayReached, MembersFollow, unreached}
use Rattle.committee_answer.proofs.reach.Reach.reach_members.Given as goal

abbrev pub invariant-loop-place : goal.invariant-loop-place
invariant-loop-place l = IsReach l.offers l.self.voters.items l.self.members.items
    × (l.self.voters.items ≡ l.fn.self.voters.items)
    × StayReached l.fn.self.members.items l.self.members.items
    × MembersFollow l.offers l.self.voters.items l.self.members.items l.place
    × (l.is_new ≡ false → l.self.members.items ≡ l.fn.self.members.items)
    × (l.is_new ≡ true → unreached l.self.members.items < unreached l.fn.self.members.items)
