use Rattle.std.proofs.Common.{IsPermutation}
use Rattle.support_balance.proofs.OverLemmas.{rising_sorted, along_sorted, few_laid, laid_in_range, same_laid, kept_over}
use Rattle.support_balance.proofs.backing.lay_weights.Goals as goal

pub lay-requires-clause-edges : goal.lay-requires-clause-edges
lay-requires-clause-edges c =
    let moved : IsPermutation c.args.weights.now.plain.edges c.in_ok-sorted.sorted.items = rw c.edges.ensures at c.in_ok-sorted.ensures.same in
    rw c.deref-2.ensures.value (rising_sorted c.args.snapshot.now c.target_count-targets.ensures.well_formed c.args.weights.now.plain c.requires.follows c.in_ok-slots.slots.items c.in_ok-slots.ensures
    c.args.is_member.now c.requires.marks c.requires.count c.in_ok-sorted.sorted.items c.in_ok-sorted.ensures.rising moved)

pub lay-requires-clause-along : goal.lay-requires-clause-along
lay-requires-clause-along c =
    let moved : IsPermutation c.args.weights.now.plain.edges c.in_ok-sorted.sorted.items = rw c.edges.ensures at c.in_ok-sorted.ensures.same in
    rw (c.deref.ensures.value, c.deref-2.ensures.value)
    (along_sorted c.args.snapshot.now c.target_count-targets.ensures.well_formed c.args.weights.now.plain
    c.requires.follows c.in_ok-slots.slots.items c.in_ok-slots.ensures
    c.args.is_member.now c.requires.marks c.requires.count c.in_ok-sorted.sorted.items c.in_ok-sorted.ensures.rising moved)

pub supports_of-requires-clause-few : goal.supports_of-requires-clause-few
supports_of-requires-clause-few c =
    let moved : IsPermutation c.args.weights.now.plain.edges c.in_ok-sorted.sorted.items = rw c.edges.ensures at c.in_ok-sorted.ensures.same in
    let lays = rw (c.deref.ensures.value, c.deref-2.ensures.value) at c.in_ok-laid.ensures in
    rw c.deref-3.ensures.value (few_laid c.args.snapshot.now c.target_count-targets.ensures.well_formed c.args.weights.now.plain c.requires.follows c.in_ok-slots.slots.items c.in_ok-slots.ensures
    c.args.is_member.now c.requires.marks c.requires.count c.in_ok-sorted.sorted.items c.in_ok-sorted.ensures.rising moved c.in_ok-laid.laid.items lays)

pub supports_of-requires-clause-in_range : goal.supports_of-requires-clause-in_range
supports_of-requires-clause-in_range c =
    let moved : IsPermutation c.args.weights.now.plain.edges c.in_ok-sorted.sorted.items = rw c.edges.ensures at c.in_ok-sorted.ensures.same in
    let lays = rw (c.deref.ensures.value, c.deref-2.ensures.value) at c.in_ok-laid.ensures in
    rw (c.deref-3.ensures.value, c.target_count-targets.ensures.count)
    (laid_in_range c.args.snapshot.now c.target_count-targets.ensures.well_formed c.args.weights.now.plain c.requires.follows c.in_ok-slots.slots.items c.in_ok-slots.ensures
    c.args.is_member.now c.requires.marks c.requires.count c.in_ok-sorted.sorted.items c.in_ok-sorted.ensures.rising moved c.in_ok-laid.laid.items lays)

pub returns-clause-kept : goal.returns-clause-kept
returns-clause-kept c =
    let moved : IsPermutation c.args.weights.now.plain.edges c.in_ok-sorted.sorted.items = rw c.edges.ensures at c.in_ok-sorted.ensures.same in
    let lays = rw (c.deref.ensures.value, c.deref-2.ensures.value) at c.in_ok-laid.ensures in
    kept_over c.args.snapshot.now c.target_count-targets.ensures.well_formed c.args.weights.now.plain c.requires.follows c.in_ok-slots.slots.items c.in_ok-slots.ensures
    c.args.is_member.now c.requires.marks c.requires.count c.in_ok-sorted.sorted.items c.in_ok-sorted.ensures.rising moved c.in_ok-laid.laid.items lays
    c.in_ok-supports.supports.items (rw c.target_count-targets.ensures.count at c.in_ok-supports.ensures.count) (rw c.deref-3.ensures.value at c.in_ok-supports.ensures.sums)

pub returns-clause-same : goal.returns-clause-same
returns-clause-same c =
    let moved : IsPermutation c.args.weights.now.plain.edges c.in_ok-sorted.sorted.items = rw c.edges.ensures at c.in_ok-sorted.ensures.same in
    let lays = rw (c.deref.ensures.value, c.deref-2.ensures.value) at c.in_ok-laid.ensures in
    same_laid c.args.snapshot.now c.target_count-targets.ensures.well_formed c.args.weights.now.plain c.requires.follows c.in_ok-slots.slots.items c.in_ok-slots.ensures
    c.args.is_member.now c.requires.marks c.requires.count c.in_ok-sorted.sorted.items c.in_ok-sorted.ensures.rising moved c.in_ok-laid.laid.items lays
