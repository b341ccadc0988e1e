use Rattle.std.proofs.Common.{arith, ◌<◌}
use Rattle.phragmms_miner.proofs.RateLemmas.{part_within, part_exact, part_found, part_missed}
use Rattle.phragmms_miner.proofs.pass.pay.Goals as goal

pub overflow_sub-rest : goal.overflow_sub-rest
overflow_sub-rest c =
    let above : c.args.price < c.args.support = omega (arith, c.if-support-from.false, c.from.ensures) in
    rw (c.from-2.ensures, c.from-3.ensures, c.from-4.ensures, c.from-5.ensures, c.requires.rate above)
    (part_within c.args.price c.args.amount c.args.support 18446744073709551616 (omega (arith, above)) (omega arith))

pub returns-then-product-amount : goal.returns-then-product-amount
returns-then-product-amount c =
    let above : c.args.price < c.args.support = omega (arith, c.if-support-from.false, c.from.ensures) in
    let rate = c.requires.rate above in
    let cut = rw (c.from-2.ensures, c.from-3.ensures, rate) at c.if-product-amount.true in
    rw (c.from-2.ensures, c.from-3.ensures, rate)
    (part_exact c.args.price c.args.amount c.args.support 18446744073709551616 (omega (arith, above)) (omega arith) above
    (omega (arith, cut, c.ranges.amount)))

pub returns-then-rest-support : goal.returns-then-rest-support
returns-then-rest-support c =
    let above : c.args.price < c.args.support = omega (arith, c.if-support-from.false, c.from.ensures) in
    let rate = c.requires.rate above in
    let low = rw (c.from-2.ensures, c.from-3.ensures, c.from-4.ensures, c.from-5.ensures, rate) at c.if-rest-support.true in
    rw (c.from-2.ensures, c.from-3.ensures, rate) (part_found c.args.price c.args.amount c.args.support 18446744073709551616 (omega (arith, above)) (omega arith) above low)

pub returns-else-rest-support : goal.returns-else-rest-support
returns-else-rest-support c =
    let above : c.args.price < c.args.support = omega (arith, c.if-support-from.false, c.from.ensures) in
    let rate = c.requires.rate above in
    let high = rw (c.from-2.ensures, c.from-3.ensures, c.from-4.ensures, c.from-5.ensures, rate) at c.if-rest-support.false in
    rw (c.from-2.ensures, c.from-3.ensures, rate)
    (part_missed c.args.price c.args.amount c.args.support 18446744073709551616 (omega (arith, above)) (omega arith) above (omega (arith, c.ranges.amount)) high)
