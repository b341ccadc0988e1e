use Rattle.std.proofs.Common.{◌≡◌, ◌≤◌, length, take, sum, All}
use Rattle.support_balance.specs.Levels.{low, bases}
use Rattle.support_balance.proofs.turn.short_pool.Given as goal

-- the pool of the edges so far
abbrev pub invariant-loop-edge : goal.invariant-loop-edge
invariant-loop-edge l =
    (l.pool.sum ≡ sum (low l.cap (bases l.supports (take l.edge-index l.row))))
    × (l.pool.count ≡ length (low l.cap (bases l.supports (take l.edge-index l.row))))
    × All (λ base. base ≤ l.pool.highest) (low l.cap (bases l.supports (take l.edge-index l.row)))
    × (l.pool.highest ≤ l.cap) × (l.pool.count ≤ l.edge-index)
