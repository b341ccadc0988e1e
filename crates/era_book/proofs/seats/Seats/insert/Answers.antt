-- The seat stands over one of the same account, or at its own place between the others.
use Rattle.std.proofs.Common.{◌≡◌, List, set, ap, ◌∙◌}
use Rattle.std.specs.BTreeMap.{insert_entry}
use Rattle.npos_base.specs.declared.account.AccountId.{AccountId}
use Rattle.npos_base.specs.Account.{account_cmp}
use Rattle.era_book.specs.declared.seat.Seat.{Seat}
use Rattle.era_book.specs.Seats.{entries_of}
use Rattle.era_book.proofs.PlaceLemmas.{there, put_over, put_between, rising_put}
use Rattle.era_book.proofs.seats.Seats.insert.Goals as goal

over : (c : goal.After-drop-index_mut) → entries_of (set c.self.inside.items.items c.in-Ok.place c.args.seat)
    ≡ insert_entry account_cmp (entries_of c.self.inside.items.items) c.args.seat.validator c.args.seat
over c =
    let here = there c.args.seat.validator c.as_slice.result.now c.self.inside.items.items c.in-Ok.place c.as_slice.ensures.value c.in-Ok.ensures.bound c.in-Ok.ensures.found in
    put_over c.self.inside.items.items c.in-Ok.place c.args.seat c.self.invariant here.0 here.1

between : (c : goal.In_ok-insert-in-Err) → entries_of c.insert.new.self.items
    ≡ insert_entry account_cmp (entries_of c.self.inside.items.items) c.args.seat.validator c.args.seat
between c =
    put_between c.as_slice.result.now c.self.inside.items.items c.insert.new.self.items c.in-Err.place c.args.seat c.as_slice.ensures.value
    c.in-Err.ensures.bound c.in-Err.ensures.missing c.in_ok-insert-in-Err.ensures.items

pub invariant_of-self : goal.invariant_of-self
invariant_of-self c = rising_put c.self.inside.items.items _ c.args.seat c.self.invariant (over c)

pub returns-in-Ok-clause-ok : goal.returns-in-Ok-clause-ok
returns-in-Ok-clause-ok c =
    over c ∙ ap (λ (entries : List (AccountId × Seat)). insert_entry account_cmp entries c.args.seat.validator c.args.seat) c.self.view_is

pub invariant_of-self-in-Continue-1 : goal.invariant_of-self-in-Continue-1
invariant_of-self-in-Continue-1 c = rising_put c.self.inside.items.items c.insert.new.self.items c.args.seat c.self.invariant (between c)

pub returns-in_ok-insert-in-Err-clause-ok : goal.returns-in_ok-insert-in-Err-clause-ok
returns-in_ok-insert-in-Err-clause-ok c =
    between c ∙ ap (λ (entries : List (AccountId × Seat)). insert_entry account_cmp entries c.args.seat.validator c.args.seat) c.self.view_is
