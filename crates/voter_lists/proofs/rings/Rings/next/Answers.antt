use Rattle.std.proofs.Common.{arith}
use Rattle.voter_lists.proofs.RingLemmas.{next_none, next_some}
use Rattle.voter_lists.proofs.rings.Rings.next.Goals as goal

pub overflow_sub-result : goal.overflow_sub-result
overflow_sub-result c =
    (next_some c.self.inside.links.items c.self.inside.links.items _ _ c.args.list c.args.key c.self.invariant
    (omega arith) _ (rw (← c.self.view_is) at c.requires) c.index.ensures c.if-next-list.false).0

pub returns-then-next-list-clause-value : goal.returns-then-next-list-clause-value
returns-then-next-list-clause-value c =
    rw (← c.self.view_is) (next_none c.self.inside.links.items c.self.inside.links.items _ _ c.args.list c.args.key
    c.self.invariant (omega arith) _ (rw (← c.self.view_is) at c.requires) c.index.ensures c.if-next-list.true)

pub returns-else-next-list-clause-value : goal.returns-else-next-list-clause-value
returns-else-next-list-clause-value c =
    rw (← c.self.view_is) (next_some c.self.inside.links.items c.self.inside.links.items _ _ c.args.list c.args.key
    c.self.invariant (omega arith) _ (rw (← c.self.view_is) at c.requires) c.index.ensures c.if-next-list.false).1

pub returns-else-next-list-clause-member : goal.returns-else-next-list-clause-member
returns-else-next-list-clause-member c =
    rw (← c.self.view_is) (next_some c.self.inside.links.items c.self.inside.links.items _ _ c.args.list c.args.key
    c.self.invariant (omega arith) _ (rw (← c.self.view_is) at c.requires) c.index.ensures c.if-next-list.false).2
