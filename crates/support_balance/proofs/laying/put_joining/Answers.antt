use Rattle.std.proofs.Common.{arith, ◌≡◌, ◌+◌, ◌-◌, subst}
use Rattle.support_balance.specs.declared.laying.Joining.{Joining}
use Rattle.support_balance.proofs.SpreadLemmas.{IsSpreading, all_spread, spread_more}
use Rattle.support_balance.proofs.laying.put_joining.Goals as goal

abbrev none : Joining
none = record { voter = 0; place = 0 }

pub loop-i-preserved : goal.loop-i-preserved
loop-i-preserved c =
    let target = c.args.target in
    let notes = c.args.joining.now in
    let old = c.args.edges.now.items in
    let now = c.loop-i.edges.items in
    let left = c.loop-i.i - 1 in
    let from = c.loop-i.from in
    let whole : c.loop-i.i ≡ left + 1 = omega arith in
    let so = subst (λ n. IsSpreading target notes old n from now) whole c.loop-i.invariant in
    rw c.copy_within.ensures.items (spread_more target notes old c.requires.notes left from now so none)

pub returns : goal.returns
returns c =
    let done : c.loop-i.i ≡ 0 = omega arith in
    all_spread c.args.target c.args.joining.now c.args.edges.now.items c.loop-i.from c.loop-i.edges.items
    (subst (λ n. IsSpreading c.args.target c.args.joining.now c.args.edges.now.items n c.loop-i.from c.loop-i.edges.items) done c.loop-i.invariant)
