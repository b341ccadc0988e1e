use Rattle.std.proofs.Common.{◌≡◌, take}
use Rattle.weight_book.specs.Proportional.{group_stake}
use Rattle.committee_answer.proofs.telling.stake_of_group.Given as goal

abbrev pub invariant-loop-voter : goal.invariant-loop-voter
invariant-loop-voter l = l.stake ≡ group_stake l.snapshot (take l.voter-index l.group)
