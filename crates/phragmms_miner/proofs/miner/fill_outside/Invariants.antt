use Rattle.std.proofs.Common.{◌≡◌, ◌≤◌, length, take}
use Rattle.phragmms_miner.proofs.RunLemmas.{outside_of}
use Rattle.phragmms_miner.proofs.miner.fill_outside.Given as goal

-- the targets outside so far
abbrev pub invariant-loop-target : goal.invariant-loop-target
invariant-loop-target l = (take l.count l.outside ≡ outside_of l.backing.weights.committee l.target) × (l.count ≤ l.target) × (length l.outside ≡ length l.fn.outside)
