use Rattle.std.proofs.Common.{◌≡◌}
use Rattle.committee_answer.specs.Ways.{IsReach, VotersFollow}
use Rattle.committee_answer.proofs.reach.Reach.reach_voters.Given as goal

abbrev pub invariant-loop-place : goal.invariant-loop-place
invariant-loop-place l = IsReach l.offers l.self.voters.items l.self.members.items
    × (l.self.members.items ≡ l.fn.self.members.items)
    × VotersFollow l.offers l.self.voters.items l.self.members.items l.place
