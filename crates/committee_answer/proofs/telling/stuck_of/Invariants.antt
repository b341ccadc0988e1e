use Rattle.std.proofs.Common.{◌≡◌, take}
use Rattle.committee_answer.specs.Ways.{stuck}
use Rattle.committee_answer.proofs.telling.stuck_of.Given as goal

abbrev pub invariant-loop-voter : goal.invariant-loop-voter
invariant-loop-voter l = l.group.items ≡ stuck l.reach.voters.items (take l.voter-index l.voters)
