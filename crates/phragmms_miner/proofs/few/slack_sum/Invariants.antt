use Rattle.std.proofs.Common.{◌≡◌, take, sum_by}
use Rattle.weight_book.specs.Passing.{slack}
use Rattle.phragmms_miner.proofs.few.slack_sum.Given as goal

-- what the voters so far have left
abbrev pub invariant-loop-voter : goal.invariant-loop-voter
invariant-loop-voter l = l.sum ≡ sum_by (slack l.price l.snapshot l.edges) (take l.voter-index l.voters)
