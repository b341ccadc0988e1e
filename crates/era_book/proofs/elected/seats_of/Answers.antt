-- A member's list is taken once, since the members are different.
use Rattle.std.proofs.Common.{rules, ◌≡◌, ◌≢◌, ℕ, false, nat_eq, List, [], get_or, ap, ap₂, ◌∙◌, arith}
use Rattle.std.specs.BTreeMap.{insert_entry}
use Rattle.std.proofs.lemmas.Bool.Decides.{nat_tests}
use Rattle.std.proofs.lemmas.Grind.{common_steps}
use Rattle.std.proofs.lemmas.List.{get_or-set_other}
use Rattle.std.proofs.lemmas.Map.Keys.{apart_from_distinct}
use Rattle.npos_base.specs.Account.{account_cmp, account_at}
use Rattle.era_book.specs.declared.seat.Share.{Share}
use Rattle.era_book.specs.Seats.{members_seen, seat_of, shares_of}
use Rattle.era_book.proofs.SeatLemmas.{member_seated}
use Rattle.era_book.proofs.elected.seats_of.Goals as goal

apart : (a b c : ℕ) → nat_eq a b ≡ false → c ≡ a → b ≢ c
apart a b c differ is same = grind (arith, nat_tests, differ, is, same)

pub loop-member-preserved : goal.loop-member-preserved
loop-member-preserved c =
    let before = c.loop-member.invariant in
    let targets = c.args.targets.now in
    let members = c.args.members.now in
    let i = c.loop-member.member-index in
    let member : ℕ = get_or members i 0 in
    let place : c.from-place.result ≡ member = grind (arith, common_steps) in
    let taken : c.replace-shares.result ≡ get_or c.loop-member.lists.items member [] = grind (arith, common_steps) in
    let made : c.seat_at-seat.result ≡ seat_of (account_at targets member) (get_or c.args.commissions.now member 0)
    (get_or c.args.supports.now member 0) (shares_of targets c.args.voters.now c.args.edges.now member) =
    c.seat_at-seat.ensures
    ∙ ap₂ (λ (at : ℕ) (shares : List Share). seat_of (account_at targets at) (get_or c.args.commissions.now at 0) (get_or c.args.supports.now at 0) shares)
    place (taken ∙ before.lists i (omega arith) c.loop-member-test.true) in
    let put : c.insert.new.self ≡ insert_entry account_cmp c.loop-member.seats (account_at targets c.from-place.result) c.seat_at-seat.result = search rules in
    record {
      seats =
          ap (λ entries. members_seen c.args.voters.now entries)
          (put ∙ ap (λ (at : ℕ). insert_entry account_cmp c.loop-member.seats (account_at targets at) c.seat_at-seat.result) place)
          ∙ member_seated targets c.args.commissions.now c.args.supports.now c.args.voters.now c.args.edges.now c.loop-member.seats c.seat_at-seat.result members i
          c.loop-member-test.true made before.seats;
      count = grind (arith, common_steps, before.count);
      lists = λ j after below.
          get_or-set_other c.loop-member.lists.items c.from-place.result (get_or members j 0) c.replace-shares.new.dest []
          (apart member (get_or members j 0) c.from-place.result (apart_from_distinct nat_eq members i j 0 c.requires.once (omega (arith, after)) below) place)
          ∙ before.lists j (omega (arith, after)) below;
    }
