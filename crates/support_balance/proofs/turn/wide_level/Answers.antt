use Rattle.std.proofs.Common.{arith}
use Rattle.std.proofs.lemmas.List.{length-map}
use Rattle.support_balance.proofs.PoolLemmas.{first_pool, next_pool, level_at, height_fits, bases_small}
use Rattle.support_balance.specs.Levels.{bases, base_of}
use Rattle.support_balance.proofs.turn.wide_level.Goals as goal

pub nonzero_div-height : goal.nonzero_div-height
nonzero_div-height c =
    let xs = bases c.args.supports.now c.args.row.now in
    let first = first_pool c.args.stake xs _ c.pool_within-pool.result.sum c.pool_within-pool.result.count c.pool_within-pool.result.highest
    (omega (arith, c.requires.some, length-map c.args.row.now (base_of c.args.supports.now)))
    (bases_small c.args.supports.now c.args.row.now c.requires.row) c.pool_within-pool.ensures.sum
    c.pool_within-pool.ensures.count c.pool_within-pool.ensures.highest in
    omega (arith, first.some)

pub loop-height-init : goal.loop-height-init
loop-height-init c =
    let xs = bases c.args.supports.now c.args.row.now in
    let first = first_pool c.args.stake xs _ c.pool_within-pool.result.sum c.pool_within-pool.result.count c.pool_within-pool.result.highest
    (omega (arith, c.requires.some, length-map c.args.row.now (base_of c.args.supports.now)))
    (bases_small c.args.supports.now c.args.row.now c.requires.row) c.pool_within-pool.ensures.sum
    c.pool_within-pool.ensures.count c.pool_within-pool.ensures.highest in
    (340282366920938463463374607431768211455, rw c.from.ensures first, c.pool_within-pool.ensures.small, omega (arith, c.pool_within-pool.ensures.few, c.requires.row.few))

pub nonzero_div-height-in-loop-height : goal.nonzero_div-height-in-loop-height
nonzero_div-height-in-loop-height c =
    let pool = c.pool_within-pool-in-loop-height in
    let next = next_pool c.args.stake (bases c.args.supports.now c.args.row.now) _ _ _ _ _ c.loop-height.invariant.1
    pool.result.sum pool.result.count pool.result.highest pool.ensures.sum pool.ensures.count pool.ensures.highest in
    omega (arith, next.some)

pub loop-height-preserved : goal.loop-height-preserved
loop-height-preserved c =
    let pool = c.pool_within-pool-in-loop-height in
    let next = next_pool c.args.stake (bases c.args.supports.now c.args.row.now) _ _ _ _ _ c.loop-height.invariant.1
    pool.result.sum pool.result.count pool.result.highest pool.ensures.sum pool.ensures.count pool.ensures.highest in
    (c.loop-height.height, rw c.from-in-loop-height.ensures next, pool.ensures.small, omega (arith, pool.ensures.few, c.requires.row.few))

pub overflow_add-above : goal.overflow_add-above
overflow_add-above c = omega (arith, c.loop-height.invariant.2, c.loop-height.invariant.3, c.from-2.ensures, c.ranges.stake)

pub overflow_mul-above : goal.overflow_mul-above
overflow_mul-above c = omega (arith, height_fits _ _ _ _ _ _ _ c.loop-height.invariant.1, c.loop-height.invariant.2, c.loop-height.invariant.3, c.ranges.stake)

pub overflow_sub-above : goal.overflow_sub-above
overflow_sub-above c = omega (arith, height_fits _ _ _ _ _ _ _ c.loop-height.invariant.1, c.from-2.ensures)

pub returns : goal.returns
returns c = level_at _ _ _ _ _ _ _ _ c.loop-height.invariant.1 c.loop-height-test.false
    (omega (arith, height_fits _ _ _ _ _ _ _ c.loop-height.invariant.1, c.from-2.ensures))
