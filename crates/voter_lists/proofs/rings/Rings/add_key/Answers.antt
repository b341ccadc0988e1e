-- One more key has room, and no list changes.
use Rattle.std.proofs.Common.{arith}
use Rattle.std.proofs.lemmas.List.{get_or_append_left}
use Rattle.voter_lists.specs.Links.{no_link}
use Rattle.voter_lists.proofs.RingLemmas.{AreWellLinked-grown, SameLists-grown}
use Rattle.voter_lists.proofs.rings.Rings.add_key.Goals as goal

pub invariant_of-self-2 : goal.invariant_of-self-2
invariant_of-self-2 c =
    let sized = c.self.invariant.sized in
    rw (c.push_reserved-2.ensures.items, c.reserve-2.ensures.items)
    (AreWellLinked-grown _ _ _ _ 1 c.self.invariant (omega (arith, c.push_reserved.ensures.len))
    (λ at below. rw (c.push_reserved.ensures.items, c.reserve.ensures.items) (get_or_append_left _ _ no_link at (omega arith))))

pub returns-clause-same : goal.returns-clause-same
returns-clause-same c =
    let sized = c.self.invariant.sized in
    rw (← c.self.view_is, c.push_reserved-2.ensures.items, c.reserve-2.ensures.items)
    (SameLists-grown _ _ _ _ 1 c.self.invariant (omega (arith, c.push_reserved.ensures.len))
    (λ at below. rw (c.push_reserved.ensures.items, c.reserve.ensures.items) (get_or_append_left _ _ no_link at (omega arith))))
