use Rattle.std.proofs.Common.{rules, ◌≡◌, Some, None, ap, sym, ◌∙◌}
use Rattle.std.specs.BTreeMap.{is_at}
use Rattle.std.specs.Map.{lookup}
use Rattle.npos_base.specs.Account.{account_cmp}
use Rattle.era_book.specs.Members.{Member, Members, member_of}
use Rattle.era_book.specs.Seats.{member_seen}
use Rattle.era_book.proofs.MemberLemmas.{points_within}
use Rattle.era_book.proofs.SeatLemmas.{member_found}
use Rattle.era_book.proofs.era.Era.get.Goals as goal

pub returns-in-Some-clause-member : goal.returns-in-Some-clause-member
returns-in-Some-clause-member c =
    let found : lookup (is_at (account_cmp c.args.who)) c.self.inside.members ≡ Some c.in-Some.seat.now = search rules in
    let seen : c.of.result ≡ member_seen c.self.inside.accounts c.in-Some.seat.now = search rules in
    ap (λ (m : Member). Some m) seen
    ∙ (sym (member_found c.self.inside.accounts c.args.who c.self.inside.members (Some c.in-Some.seat.now) found)
    ∙ ap (λ (members : Members). member_of members c.args.who) c.self.view_is)

pub returns-in-Some-clause-points : goal.returns-in-Some-clause-points
returns-in-Some-clause-points c =
    points_within c.args.self.now c.args.who c.of.result (sym (returns-in-Some-clause-member c))

pub returns-in-None-clause-member : goal.returns-in-None-clause-member
returns-in-None-clause-member c =
    let nobody : lookup (is_at (account_cmp c.args.who)) c.self.inside.members ≡ None = search rules in
    sym (member_found c.self.inside.accounts c.args.who c.self.inside.members None nobody)
    ∙ ap (λ (members : Members). member_of members c.args.who) c.self.view_is
