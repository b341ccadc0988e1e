use Rattle.std.proofs.Common.{rules, ◌≡◌, length, map, subst, sym}
use Rattle.era_book.specs.Committee.{edges_by_voter, exposure_of}
use Rattle.era_book.specs.Members.{Members, members_with, IsCounted}
use Rattle.era_book.specs.Seats.{members_seen}
use Rattle.era_book.proofs.MemberLemmas.{counted_newcomers}
use Rattle.era_book.proofs.era.Era.elected.Goals as goal

pub invariant_of-result : goal.invariant_of-result
invariant_of-result c =
    let seen : members_seen c.in_ok-accounts.accounts c.in_ok-members.members
    ≡ members_with (map (exposure_of c.args.targets.now c.args.commissions.now c.args.supports.now c.args.voters
    (edges_by_voter (length c.args.voters) c.args.edges.now)) c.args.members.now) = search rules in
    subst (λ (members : Members). IsCounted members 0) (sym seen)
    (counted_newcomers (map (exposure_of c.args.targets.now c.args.commissions.now c.args.supports.now c.args.voters (edges_by_voter (length c.args.voters) c.args.edges.now)) c.args.members.now))
