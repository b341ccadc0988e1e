-- A search that hits ends at the place of the account, and one that misses leaves the places.
use Rattle.std.proofs.Common.{◌≡◌, ◌∙◌, slice_get, Some, ap, sym, subst}
use Rattle.voter_lists.specs.Noted.{accounts_at}
use Rattle.voter_lists.specs.RankedAt.{BelongsAt}
use Rattle.voter_lists.proofs.RankLemmas.{hit, missed_same}
use Rattle.voter_lists.proofs.RankedPlaceLemmas.{accounts_removed}
use Rattle.voter_lists.proofs.ranks.leave.Goals as goal

pub returns-in-Ok-clause-left : goal.returns-in-Ok-clause-left
returns-in-Ok-clause-left c =
    let accounts = c.args.standings.now.accounts in
    let places = c.args.validators.now.items in
    ap (accounts_at accounts) c.remove.ensures.items
    ∙ accounts_removed accounts places c.in-Ok.rank c.requires.within
    ∙ hit c.args.who (accounts_at accounts places) c.in-Ok.rank c.requires.rising
    (subst (λ places. slice_get (accounts_at accounts places) c.in-Ok.rank ≡ Some c.args.who) c.as_slice.ensures.value c.in-Ok.ensures.found)

pub returns-in-Err-clause-left : goal.returns-in-Err-clause-left
returns-in-Err-clause-left c =
    let accounts = c.args.standings.now.accounts in
    sym (missed_same c.args.who (accounts_at accounts c.args.validators.now.items) c.in-Err.field-0
    (subst (λ places. BelongsAt c.args.who (accounts_at accounts places) c.in-Err.field-0) c.as_slice.ensures.value c.in-Err.ensures.missed))
