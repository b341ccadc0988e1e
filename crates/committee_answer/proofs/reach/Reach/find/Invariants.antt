use Rattle.committee_answer.specs.Ways.{IsReach, SparesFollow, unreached}
use Rattle.committee_answer.proofs.reach.Reach.find.Given as goal

abbrev pub invariant-spreads : goal.invariant-spreads
invariant-spreads l = IsReach l.offers l.self.voters.items l.self.members.items × SparesFollow l.offers l.self.members.items

abbrev pub decreases-spreads : goal.decreases-spreads
decreases-spreads l = unreached l.self.members.items
