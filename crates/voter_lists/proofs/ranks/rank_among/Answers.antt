-- A search that hits ends at the rank of the account, and one that misses tells that it has none.
use Rattle.std.proofs.Common.{sym}
use Rattle.voter_lists.specs.Noted.{accounts_at}
use Rattle.voter_lists.proofs.PlaceLemmas.{place_is, no_place}
use Rattle.voter_lists.proofs.RankLemmas.{missed_apart}
use Rattle.voter_lists.proofs.ranks.rank_among.Goals as goal

pub returns-in-Ok : goal.returns-in-Ok
returns-in-Ok c =
    sym (place_is c.args.who (accounts_at c.args.standings.now.accounts c.args.validators.now) c.in-Ok.rank c.requires.rising.rising c.in-Ok.ensures.found)

pub returns-in-Err : goal.returns-in-Err
returns-in-Err c =
    let accounts = accounts_at c.args.standings.now.accounts c.args.validators.now in
    sym (no_place c.args.who accounts (missed_apart c.args.who accounts c.in-Err.field-0 c.in-Err.ensures.missed))
