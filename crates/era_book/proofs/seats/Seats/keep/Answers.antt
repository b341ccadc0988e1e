-- The account's seat changes, where it has one.
use Rattle.std.proofs.Common.{refl}
use Rattle.era_book.specs.declared.seat.Seat.{Seat}
use Rattle.era_book.specs.Calls.{keeping}
use Rattle.era_book.proofs.PlaceLemmas.{there, still_rising, change_seen, none_seen}
use Rattle.era_book.proofs.seats.Seats.keep.Goals as goal

pub invariant_of-self : goal.invariant_of-self
invariant_of-self c =
    let here = there c.args.who c.as_slice.result.now c.self.inside.items.items c.in-Ok.place c.as_slice.ensures.value c.in-Ok.ensures.bound c.in-Ok.ensures.found in
    let after : Seat = record c.index_mut.result.now { fraction = c.args.fraction } in
    still_rising c.args.who c.self.inside.items.items c.in-Ok.place c.index_mut.result.now after c.self.invariant here c.index_mut.ensures.value refl

pub returns-in-Ok : goal.returns-in-Ok
returns-in-Ok c accounts =
    let here = there c.args.who c.as_slice.result.now c.self.inside.items.items c.in-Ok.place c.as_slice.ensures.value c.in-Ok.ensures.bound c.in-Ok.ensures.found in
    let after : Seat = record c.index_mut.result.now { fraction = c.args.fraction } in
    change_seen c.args.who c.self.inside.items.items c.in-Ok.place c.index_mut.result.now after c.self.invariant here c.index_mut.ensures.value refl accounts (keeping c.args.fraction) c.args.self.now
    c.self.view_is refl

pub returns-in_default : goal.returns-in_default
returns-in_default c accounts =
    none_seen c.args.who c.as_slice.result.now c.self.inside.items.items c.in_default.field-0 c.args.self.now accounts
    (keeping c.args.fraction) c.as_slice.ensures.value c.self.view_is c.in_default.ensures.missing
