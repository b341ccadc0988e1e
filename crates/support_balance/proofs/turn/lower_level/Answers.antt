use Rattle.std.proofs.Common.{arith}
use Rattle.support_balance.proofs.PoolLemmas.{bounded_pool, next_pool, level_at}
use Rattle.support_balance.specs.Levels.{bases}
use Rattle.support_balance.proofs.turn.lower_level.Goals as goal

pub loop-height-init : goal.loop-height-init
loop-height-init c =
    let pool = c.in_ok-pool in
    let first = bounded_pool c.args.stake (bases c.args.supports.now c.args.row.now) c.args.bound c.requires.bound
    pool.pool.sum pool.pool.count pool.pool.highest pool.ensures.sum pool.ensures.count pool.ensures.highest in
    (c.args.bound, rw c.in_ok-height.ensures.height first, c.in_ok-height.ensures.fits)

pub loop-height-preserved : goal.loop-height-preserved
loop-height-preserved c =
    let pool = c.in_ok-pool-2 in
    let next = next_pool c.args.stake (bases c.args.supports.now c.args.row.now) _ _ _ _ _ c.loop-height.invariant.1
    pool.pool.sum pool.pool.count pool.pool.highest pool.ensures.sum pool.ensures.count pool.ensures.highest in
    (c.loop-height.height, rw c.in_ok-height-2.ensures.height next, c.in_ok-height-2.ensures.fits)

pub returns : goal.returns
returns c = rw c.level_at.ensures.height (level_at _ _ _ _ _ _ _ _ c.loop-height.invariant.1 c.loop-height-test.false (omega (arith, c.level_at.ensures.above)))
