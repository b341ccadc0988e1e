use Rattle.std.proofs.Common.{arith, None, set}
use Rattle.voter_lists.specs.Rings.{items, without}
use Rattle.voter_lists.specs.Links.{lists_of}
use Rattle.voter_lists.proofs.RingLemmas.{fit_sound, before_within, after_within, Changes, Changes-skip}
use Rattle.voter_lists.proofs.rings.Rings.unlink.Goals as goal
use Rattle.voter_lists.proofs.rings.Rings.unlink.Goals.{After-index_mut}

pub skip-requires-clause-prev_in : goal.skip-requires-clause-prev_in
skip-requires-clause-prev_in c = omega (arith, before_within _ _ _ c.self.invariant c.args.list c.args.key (rw (← c.self.view_is) at c.requires))

pub skip-requires-clause-next_in : goal.skip-requires-clause-next_in
skip-requires-clause-next_in c = omega (arith, after_within _ _ _ c.self.invariant c.args.list c.args.key (rw (← c.self.view_is) at c.requires))

-- what the skip and the write of the owner make of the fields
changes : (c : After-index_mut) → Changes c.self.inside.links.items c.skip.new.links.items c.self.inside.owners.items
    (set c.self.inside.owners.items c.args.key None) c.self.inside.heads c.args.list
    (without c.args.key (items (lists_of c.self.inside.links.items c.self.inside.owners.items c.self.inside.heads)
    c.args.list))
changes c =
    Changes-skip _ _ _ _ c.args.list c.args.key c.self.invariant (omega arith) (rw (← c.self.view_is) at c.requires) c.skip.ensures.skips

pub invariant_of-self : goal.invariant_of-self
invariant_of-self c = (changes (goal.at.invariant_of-self c).After-index_mut).sound

pub returns-clause-left : goal.returns-clause-left
returns-clause-left c = rw (← c.self.view_is) (changes (goal.at.returns-clause-left c).After-index_mut).changed

pub returns-clause-others : goal.returns-clause-others
returns-clause-others c other differs =
    rw (← c.self.view_is) ((changes (goal.at.returns-clause-others c).After-index_mut).others other differs)

pub returns-clause-fit : goal.returns-clause-fit
returns-clause-fit c = fit_sound _ _ _ (changes (goal.at.returns-clause-fit c).After-index_mut).sound
