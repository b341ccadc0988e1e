use Rattle.std.proofs.Common.{◌<◌, length}
use Rattle.phragmms_miner.proofs.search.highest_below.Given as goal

-- the best so far is in the table
abbrev pub invariant-loop-target : goal.invariant-loop-target
invariant-loop-target l = l.best < length l.prescores
