use Rattle.std.proofs.Common.{arith, ◌≡◌, ◌-◌, get_or, ◌∙◌}
use Rattle.std.proofs.lemmas.List.{get_or-map, length-map}
use Rattle.support_balance.specs.Levels.{base_of, bases}
use Rattle.support_balance.specs.Rows.{at}
use Rattle.support_balance.proofs.Edges.{no_edge}
use Rattle.support_balance.proofs.HandLemmas.{same_base, within_table, handed_next}
use Rattle.support_balance.proofs.turn.hand_out.Goals as goal

pub overflow_sub-base : goal.overflow_sub-base
overflow_sub-base c = rw (c.from-place.ensures, c.from.ensures) (within_table _ _ _ _ c.requires.row _ _ _ _ _ c.loop-i.invariant.0 c.loop-i-test.true no_edge)

pub raise-amount-requires : goal.raise-amount-requires
raise-amount-requires c =
    let row = c.args.row.now in
    let i = c.loop-i.i in
    let supports = c.args.supports.now in
    let base_is = same_base _ _ _ _ c.requires.row _ _ _ _ _ c.loop-i.invariant.0 c.loop-i-test.true no_edge in
    let in_bases : get_or (bases supports row) i 0 ≡ base_of supports (get_or row i no_edge) = get_or-map (base_of supports) row i no_edge 0 c.loop-i-test.true in
    let fits = c.requires.fits i 0 (omega (arith, c.loop-i-test.true, length-map row (base_of supports))) in
    rw (c.from-place.ensures, c.from.ensures, base_is, c.loop-i.invariant.1) (λ low. omega (arith, fits (omega (arith, in_bases, low)), in_bases, c.loop-i.invariant.0.no_more))

pub overflow_add-supports : goal.overflow_add-supports
overflow_add-supports c =
    let row = c.args.row.now in
    let i = c.loop-i.i in
    let supports = c.args.supports.now in
    let base_is = same_base _ _ _ _ c.requires.row _ _ _ _ _ c.loop-i.invariant.0 c.loop-i-test.true no_edge in
    let small = c.requires.row.small (get_or row i no_edge).target in
    rw (c.from-place.ensures, c.from.ensures, base_is) (omega (arith, small, c.from-in-loop-i.ensures, c.raise-amount.type_inv))

pub loop-i-preserved : goal.loop-i-preserved
loop-i-preserved c =
    let now = c.loop-i.row in
    let i = c.loop-i.i in
    let base = at c.loop-i.supports (get_or now i no_edge).target - (get_or now i no_edge).amount in
    let base_is = same_base _ _ _ _ c.requires.row _ _ _ _ _ c.loop-i.invariant.0 c.loop-i-test.true no_edge in
    let amount = rw (c.from-place.ensures, c.from.ensures, c.loop-i.invariant.1) at c.raise-amount.ensures.amount in
    let above = rw (c.from-place.ensures, c.from.ensures, c.loop-i.invariant.1) at c.raise-amount.ensures.above in
    let next = handed_next _ _ _ _ c.requires.row _ _ _ _ _ c.loop-i.invariant.0 c.loop-i-test.true no_edge base c.raise-amount.result c.raise-amount.new.left.above base_is amount above in
    (rw (c.from-place.ensures, c.from.ensures, c.from-in-loop-i.ensures) next, c.raise-amount.ensures.height ∙ c.loop-i.invariant.1)
