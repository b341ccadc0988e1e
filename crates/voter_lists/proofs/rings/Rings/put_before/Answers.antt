use Rattle.std.proofs.Common.{arith, Some, set}
use Rattle.voter_lists.specs.Rings.{items, before}
use Rattle.voter_lists.specs.Links.{lists_of}
use Rattle.voter_lists.proofs.RingLemmas.{fit_sound, before_within, free_not_before, Changes, Changes-before}
use Rattle.voter_lists.proofs.rings.Rings.put_before.Goals as goal
use Rattle.voter_lists.proofs.rings.Rings.put_before.Goals.{After-index_mut}

pub splice-requires-clause-prev_in : goal.splice-requires-clause-prev_in
splice-requires-clause-prev_in c = omega (arith, before_within _ _ _ c.self.invariant c.args.list c.args.other (rw (← c.self.view_is) at c.requires.linked))

pub splice-requires-clause-not_prev : goal.splice-requires-clause-not_prev
splice-requires-clause-not_prev c =
    free_not_before _ c.self.inside.links.items _ _ c.args.list c.args.key c.self.invariant (omega arith) c.args.other
    (rw (← c.self.view_is) at c.requires.linked) (rw (← c.self.view_is) at c.requires.unlinked)

pub overflow_cast-list : goal.overflow_cast-list
overflow_cast-list c =
    omega (arith, c.self.invariant.few, c.self.invariant.known c.args.other c.args.list (rw (← c.self.view_is) at c.requires.linked))

-- what the splice and the write of the owner make of the fields
changes : (c : After-index_mut) → Changes c.self.inside.links.items c.splice.new.links.items
    c.self.inside.owners.items (set c.self.inside.owners.items c.args.key (Some c.args.list)) c.self.inside.heads
    c.args.list (before c.args.key c.args.other (items (lists_of c.self.inside.links.items c.self.inside.owners.items
    c.self.inside.heads) c.args.list))
changes c =
    Changes-before _ _ _ _ c.args.list c.args.key c.self.invariant (omega arith) c.args.other (rw (← c.self.view_is) at c.requires.linked)
    (rw (← c.self.view_is) at c.requires.key_in) (rw (← c.self.view_is) at c.requires.unlinked) c.splice.ensures.splices

pub invariant_of-self : goal.invariant_of-self
invariant_of-self c = (changes (goal.at.invariant_of-self c).After-index_mut).sound

pub returns-clause-placed : goal.returns-clause-placed
returns-clause-placed c = rw (← c.self.view_is) (changes (goal.at.returns-clause-placed c).After-index_mut).changed

pub returns-clause-others : goal.returns-clause-others
returns-clause-others c n differs =
    rw (← c.self.view_is) ((changes (goal.at.returns-clause-others c).After-index_mut).others n differs)

pub returns-clause-fit : goal.returns-clause-fit
returns-clause-fit c = fit_sound _ _ _ (changes (goal.at.returns-clause-fit c).After-index_mut).sound
