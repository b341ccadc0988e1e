use Rattle.std.proofs.Common.{ℕ, ◌<◌}
use Rattle.committee_answer.specs.Offers.{at}
use Rattle.committee_answer.specs.Ways.{IsReach, IsReached}
use Rattle.committee_answer.proofs.reach.Reach.begin.Given as goal

abbrev pub invariant-loop-target : goal.invariant-loop-target
invariant-loop-target l = IsReach l.offers l.self.voters.items l.self.members.items
    × ((target : ℕ) → target < l.target → 0 < at l.offers.spare.items target → IsReached l.self.members.items target)
