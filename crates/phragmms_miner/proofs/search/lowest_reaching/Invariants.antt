use Rattle.std.proofs.Common.{ℕ, ◌<◌, get_or, slice_index_or}
use Rattle.phragmms_miner.proofs.search.lowest_reaching.Given as goal

-- none so far reaches the price
abbrev pub invariant-loop-target : goal.invariant-loop-target
invariant-loop-target l = (k d : ℕ) → k < l.target-index → slice_index_or l.prescores (get_or l.alive k d) 0 < l.test
