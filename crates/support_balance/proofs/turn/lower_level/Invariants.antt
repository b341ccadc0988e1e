use Rattle.std.proofs.Common.{ℕ, ◌+◌, ◌^◌, ◌<◌}
use Rattle.support_balance.specs.Levels.{bases}
use Rattle.support_balance.proofs.PoolLemmas.{IsPool}
use Rattle.support_balance.proofs.turn.lower_level.Given as goal

-- the pool of some cap, and the height that it would be raised to, not above what it leaves out
abbrev pub invariant-loop-height : goal.invariant-loop-height
invariant-loop-height l = (cap : ℕ) × IsPool l.stake (bases l.supports l.row) cap l.pool.sum l.pool.count l.pool.highest l.height × (l.stake + l.pool.sum < 2 ^ 64)

abbrev pub decreases-loop-height : goal.decreases-loop-height
decreases-loop-height l = l.pool.highest
