use Rattle.std.proofs.Common.{◌≡◌, ℕ, ◌<◌, get_or}
use Rattle.committee_answer.specs.Offers.{at}
use Rattle.committee_answer.specs.Ways.{IsReached}
use Rattle.committee_answer.proofs.moving.first_mover.Given as goal

abbrev pub invariant-loop-voter : goal.invariant-loop-voter
invariant-loop-voter l = (k : ℕ) → k < l.voter-index → IsReached l.reach.voters.items (get_or l.voters k 0)
    → at l.offers.left.items (get_or l.voters k 0) ≡ 0
