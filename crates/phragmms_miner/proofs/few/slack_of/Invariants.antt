use Rattle.std.proofs.Common.{length, ◌-◌}
use Rattle.phragmms_miner.proofs.FewLemmas.{IsWalked}
use Rattle.phragmms_miner.proofs.few.slack_of.Given as goal

-- what the voter's edges so far leave
abbrev pub invariant-loop-at : goal.invariant-loop-at
invariant-loop-at l = IsWalked l.price l.snapshot l.edges l.voter l.at l.left

abbrev pub decreases-loop-at : goal.decreases-loop-at
decreases-loop-at l = length l.edges - l.at
