-- The account's seat changes, where it has one.
use Rattle.std.proofs.Common.{◌≡◌, [], ap}
use Rattle.era_book.specs.Members.{Member, gaining}
use Rattle.era_book.proofs.PlaceLemmas.{there, still_rising, change_seen, points_seen, none_seen}
use Rattle.era_book.proofs.seats.Seats.gain.Goals as goal

pub invariant_of-self : goal.invariant_of-self
invariant_of-self c =
    let here = there c.args.who c.as_slice.result.now c.self.inside.items.items c.in-Ok.place c.as_slice.ensures.value c.in-Ok.ensures.bound c.in-Ok.ensures.found in
    let same : c.gain.new.self.validator ≡ c.index_mut.result.now.validator = ap (λ (member : Member). member.exposure.validator) (c.gain.ensures.member []) in
    still_rising c.args.who c.self.inside.items.items c.in-Ok.place c.index_mut.result.now c.gain.new.self c.self.invariant here c.index_mut.ensures.value same

pub returns-in-Ok-clause-members : goal.returns-in-Ok-clause-members
returns-in-Ok-clause-members c accounts =
    let here = there c.args.who c.as_slice.result.now c.self.inside.items.items c.in-Ok.place c.as_slice.ensures.value c.in-Ok.ensures.bound c.in-Ok.ensures.found in
    let same : c.gain.new.self.validator ≡ c.index_mut.result.now.validator = ap (λ (member : Member). member.exposure.validator) (c.gain.ensures.member []) in
    change_seen c.args.who c.self.inside.items.items c.in-Ok.place c.index_mut.result.now c.gain.new.self
    c.self.invariant here c.index_mut.ensures.value same accounts (gaining c.args.points) c.args.self.now
    c.self.view_is (c.gain.ensures.member accounts)

pub returns-in-Ok-clause-added : goal.returns-in-Ok-clause-added
returns-in-Ok-clause-added c accounts =
    let here = there c.args.who c.as_slice.result.now c.self.inside.items.items c.in-Ok.place c.as_slice.ensures.value c.in-Ok.ensures.bound c.in-Ok.ensures.found in
    let same : c.gain.new.self.validator ≡ c.index_mut.result.now.validator = ap (λ (member : Member). member.exposure.validator) (c.gain.ensures.member []) in
    points_seen c.args.who c.self.inside.items.items c.in-Ok.place c.index_mut.result.now c.gain.new.self c.self.invariant here c.index_mut.ensures.value same accounts c.gain.result c.args.self.now
    c.self.view_is c.gain.ensures.added

pub returns-in-Err-clause-members : goal.returns-in-Err-clause-members
returns-in-Err-clause-members c accounts =
    none_seen c.args.who c.as_slice.result.now c.self.inside.items.items c.in-Err.field-0 c.args.self.now accounts
    (gaining c.args.points) c.as_slice.ensures.value c.self.view_is c.in-Err.ensures.missing
