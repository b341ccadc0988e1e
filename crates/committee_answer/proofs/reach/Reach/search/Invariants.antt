use Rattle.committee_answer.specs.Ways.{IsReach, StayReached}
use Rattle.committee_answer.proofs.reach.Reach.search.Given as goal

abbrev pub invariant-loop-next : goal.invariant-loop-next
invariant-loop-next l = IsReach l.offers l.self.voters.items l.self.members.items × StayReached l.fn.self.members.items l.self.members.items
