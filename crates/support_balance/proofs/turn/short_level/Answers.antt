use Rattle.std.proofs.Common.{arith, nat_lt, get_or, sym}
use Rattle.std.proofs.lemmas.Bool.{ltb-true, ltb-false}
use Rattle.npos_base.specs.declared.figures.Edge.{Edge}
use Rattle.support_balance.proofs.PoolLemmas.{part_bound, part_level}
use Rattle.support_balance.specs.Levels.{base_of}
use Rattle.support_balance.proofs.turn.short_level.Goals as goal

pub returns-then-height-backed : goal.returns-then-height-backed
returns-then-height-backed c =
    let row = c.args.row.now in
    let supports = c.args.supports.now in
    let pool = c.in_ok-backed.backed.pool in
    let height_is = c.in_ok-height.ensures.height in
    rw (c.level_at.ensures.height, height_is) (part_level (base_of supports) (λ (edge : Edge). nat_lt 0 edge.amount) c.args.stake row pool.sum pool.count c.level_at.result.above
    c.in_ok-backed.ensures.sum c.in_ok-backed.ensures.count (omega (arith, c.in_ok-height.ensures.some))
    (λ k d h t. omega (arith, c.in_ok-backed.ensures.highest k d h (ltb-true 0 (get_or row k d).amount t), c.if-backed-height.true, height_is))
    (λ k d h f. omega (arith, c.in_ok-backed.ensures.others k d h (omega (arith, ltb-false 0 (get_or row k d).amount f)), c.if-height-backed.true, height_is))
    (rw (sym height_is) c.level_at.ensures.above))

pub lower_level-requires-clause-bound : goal.lower_level-requires-clause-bound
lower_level-requires-clause-bound c =
    let pool = c.in_ok-backed.backed.pool in
    rw c.in_ok-height.ensures.height (part_bound (base_of c.args.supports.now) (λ (edge : Edge). nat_lt 0 edge.amount) c.args.stake c.args.row.now pool.sum pool.count
    c.in_ok-backed.ensures.sum c.in_ok-backed.ensures.count (omega (arith, c.in_ok-height.ensures.some)))
