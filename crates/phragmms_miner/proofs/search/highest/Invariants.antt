use Rattle.std.proofs.Common.{◌<◌, ◌≤◌, ℕ, length, get_or}
use Rattle.phragmms_miner.proofs.search.highest.Given as goal

-- the best so far is in the table, and none of those so far is above it
abbrev pub invariant-loop-target : goal.invariant-loop-target
invariant-loop-target l = (l.best < length l.prescores) × ((k d : ℕ) → k < l.target-index
    → get_or l.prescores (get_or l.targets k d) 0 ≤ get_or l.prescores l.best 0)
