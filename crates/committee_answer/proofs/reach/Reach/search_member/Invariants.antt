use Rattle.committee_answer.specs.Ways.{IsReach, StayReached}
use Rattle.committee_answer.proofs.reach.Reach.search_member.Given as goal

abbrev pub invariant-edges : goal.invariant-edges
invariant-edges l = IsReach l.offers l.self.voters.items l.self.members.items × StayReached l.fn.self.members.items l.self.members.items
