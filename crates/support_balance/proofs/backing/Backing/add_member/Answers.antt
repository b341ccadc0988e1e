use Rattle.std.proofs.Common.{rules, ◌≡◌, ◌++◌, [], ◌∷◌, sym}
use Rattle.support_balance.specs.Slots.{spread}
use Rattle.support_balance.proofs.BackingLemmas.{fresh_edges, kept_more}
use Rattle.support_balance.proofs.backing.Backing.add_member.Goals as goal

pub note_joining-requires-clause-fresh : goal.note_joining-requires-clause-fresh
note_joining-requires-clause-fresh c =
    let view = sym c.self.view_is in
    rw c.deref.ensures.value (fresh_edges _ _ _ _ _ c.self.invariant.0 c.args.target (rw view at c.requires.in_range) (rw view at c.requires.outside))

pub invariant_of-self-2 : goal.invariant_of-self-2
invariant_of-self-2 c =
    let view = sym c.self.view_is in
    let outside = rw view at c.requires.outside in
    let in_range = rw view at c.requires.in_range in
    let joins = rw c.deref.ensures.value at (c.in_ok-note_joining.ensures.joined c.self.inside.snapshot.now (rw view at c.requires.voters)) in
    let members : c.push_within.new.items.items ≡ c.self.inside.members.items ++ c.args.target ∷ [] = search rules in
    let edges : c.put_joining.new.edges.items ≡ spread c.args.target c.note_joining.new.joining.items 0 c.self.inside.edges.items = search rules in
    rw (members, c.from.ensures, edges) (kept_more _ _ _ _ _ c.self.invariant.0 c.args.target in_range outside _ joins, c.self.invariant.1)
