-- A search that hits ends at the account's seat, and one that misses tells that it has none.
use Rattle.std.proofs.Common.{rules, ◌≡◌, List, Some, get_or, ap, sym, subst, ◌∙◌}
use Rattle.std.specs.BTreeMap.{is_at}
use Rattle.std.specs.Map.{lookup}
use Rattle.npos_base.specs.declared.account.AccountId.{AccountId}
use Rattle.npos_base.specs.Account.{account_cmp}
use Rattle.era_book.specs.declared.seat.Seat.{Seat}
use Rattle.era_book.specs.Seats.{IsGapFor}
use Rattle.era_book.proofs.PlaceLemmas.{there, found_at, none_at}
use Rattle.era_book.proofs.seats.Seats.get.Goals as goal

pub returns-in-Ok : goal.returns-in-Ok
returns-in-Ok c =
    let here = there c.args.who c.as_slice.result.now c.self.inside.items.items c.in-Ok.place c.as_slice.ensures.value c.in-Ok.ensures.bound c.in-Ok.ensures.found in
    let is : c.index.result.now ≡ get_or c.self.inside.items.items c.in-Ok.place c.index.result.now = search rules in
    ap (λ (seat : Seat). Some seat) is
    ∙ (sym (found_at c.args.who c.self.inside.items.items c.in-Ok.place c.index.result.now c.self.invariant here.0 here.1)
    ∙ ap (λ (entries : List (AccountId × Seat)). lookup (is_at (account_cmp c.args.who)) entries) c.self.view_is)

pub returns-in-Err : goal.returns-in-Err
returns-in-Err c =
    sym (none_at c.args.who c.self.inside.items.items c.in-Err.field-0
    (subst (λ (seats : List Seat). IsGapFor c.args.who seats c.in-Err.field-0) c.as_slice.ensures.value c.in-Err.ensures.missing))
    ∙ ap (λ (entries : List (AccountId × Seat)). lookup (is_at (account_cmp c.args.who)) entries) c.self.view_is
