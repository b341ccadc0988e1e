-- The account marks a slot, or joins the crowd.
use Rattle.std.proofs.Common.{◌+◌, IfSome, subst}
use Rattle.account_places.specs.Index.{tag_in, AreFilled, IsMark}
use Rattle.account_places.proofs.IndexLemmas.{finds_slot, finds_crowd}
use Rattle.account_places.proofs.index.Index.note.Goals as goal

pub returns-in-Some-Some-clause-ok : goal.returns-in-Some-Some-clause-ok
returns-in-Some-Some-clause-ok c accounts apart here finds =
    let under : IsMark c.tag_of.result c.args.place c.in-Some-Some.mark = subst (λ found. IfSome found (λ mark. IsMark c.tag_of.result c.args.place mark)) c.in-Some-Some.is-1 c.mark_of-mark.ensures in
    let is : IsMark (tag_in c.args.self.now.count c.args.who) c.args.place c.in-Some-Some.mark = subst (λ tag. IsMark tag c.args.place c.in-Some-Some.mark) c.tag_of.ensures under in
    finds_slot _ _ _ accounts c.args.who c.args.place here finds c.in-Some-Some.slot c.in-Some-Some.mark c.in-Some-Some.ensures is

pub returns-clause-ok : goal.returns-clause-ok
returns-clause-ok c accounts apart here finds =
    rw c.in_ok-insert.ensures.entries (finds_crowd _ _ _ accounts c.args.who c.args.place here finds _
    (subst (λ first. AreFilled c.args.self.now.slots.items c.fill_slots.new.slots.items first (first + 4))
    c.slot_of.ensures.first c.fill_slots.ensures) apart)
