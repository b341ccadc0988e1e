use Rattle.committee_answer.specs.Ways.{IsReach, StayReached}
use Rattle.committee_answer.proofs.reach.Reach.search_voter.Given as goal

abbrev pub invariant-loop-place : goal.invariant-loop-place
invariant-loop-place l = IsReach l.offers l.self.voters.items l.self.members.items × StayReached l.fn.self.members.items l.self.members.items
