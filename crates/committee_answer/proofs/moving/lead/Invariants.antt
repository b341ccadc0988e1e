use Rattle.std.proofs.Common.{◌≡◌, ◌+◌, ◌<◌}
use Rattle.committee_answer.specs.Offers.{at, AreMoved, AreSmall}
use Rattle.committee_answer.specs.Ways.{steps_at, IsReached, AreWays}
use Rattle.committee_answer.proofs.moving.lead.Given as goal

-- the mover has something left, and whoever is as near as it has a way
abbrev pub invariant-steps : goal.invariant-steps
invariant-steps l = AreSmall l.offers
    × AreMoved l.fn.offers l.offers
    × (l.offers.rest ≡ l.fn.offers.rest)
    × (0 < at l.offers.left.items l.mover)
    × IsReached l.reach.voters.items l.mover
    × AreWays (steps_at l.reach.voters.items l.mover + 1) l.offers l.reach.voters.items l.reach.members.items

abbrev pub decreases-steps : goal.decreases-steps
decreases-steps l = steps_at l.reach.voters.items l.mover
