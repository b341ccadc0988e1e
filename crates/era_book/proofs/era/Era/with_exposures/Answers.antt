-- Each exposure enters with its accounts named, and those before it stay as they are seen.
use Rattle.std.proofs.Common.{rules, ◌≡◌, ap, subst, sym, ◌∙◌}
use Rattle.std.specs.BTreeMap.{insert_entry}
use Rattle.npos_base.specs.Account.{account_cmp}
use Rattle.era_book.specs.Members.{Members, with_exposure, members_with, IsCounted}
use Rattle.era_book.specs.Seats.{members_seen}
use Rattle.era_book.proofs.MemberLemmas.{counted_newcomers, members_more}
use Rattle.era_book.proofs.SeatLemmas.{AreSeated, seat_enters, seated_more}
use Rattle.era_book.proofs.era.Era.with_exposures.Goals as goal

pub loop-exposure-preserved : goal.loop-exposure-preserved
loop-exposure-preserved c =
    let before = c.loop-exposure.invariant in
    let old = c.loop-exposure.names in
    let new = c.new-in-loop-exposure.new.names in
    let seats = c.loop-exposure.members in
    let put : c.insert.new.self ≡ insert_entry account_cmp seats c.in-Some.exposure.validator c.in_ok-member.member = search rules in
    record {
      seen =
          ap (members_seen new) put
          ∙ (seat_enters old new seats c.in-Some.exposure c.in_ok-member.member c.new-in-loop-exposure.ensures.grows before.seated c.in_ok-member.ensures.seen
          ∙ (ap (λ (members : Members). with_exposure members c.in-Some.exposure) before.seen ∙ sym (members_more c.loop-exposure.yielded c.in-Some.exposure)));
      seated =
          subst (AreSeated new) (sym put)
          (seated_more old new seats c.in-Some.exposure.validator c.in_ok-member.member c.new-in-loop-exposure.ensures.grows before.seated c.in_ok-member.ensures.within);
    }

pub invariant_of-result : goal.invariant_of-result
invariant_of-result c =
    let seen : members_seen c.in_ok-accounts.accounts c.loop-exposure.members ≡ members_with c.loop-exposure.yielded = search rules in
    subst (λ (members : Members). IsCounted members 0) (sym seen) (counted_newcomers c.loop-exposure.yielded)
