-- A search that hits leaves the places, and one that misses ends where the account belongs.
use Rattle.std.proofs.Common.{◌≡◌, ◌≤◌, ◌∙◌, length, slice_get, Some, ap, sym, subst, arith}
use Rattle.std.proofs.lemmas.Option.{slice_get_within}
use Rattle.voter_lists.specs.Noted.{AreWithin, accounts_at}
use Rattle.voter_lists.specs.RankedAt.{BelongsAt}
use Rattle.voter_lists.proofs.NamedLemmas.{count_at}
use Rattle.voter_lists.proofs.RankLemmas.{missed, hit_same}
use Rattle.voter_lists.proofs.RankedPlaceLemmas.{within_inserted, accounts_inserted}
use Rattle.voter_lists.proofs.ranks.enter.Goals as goal

pub returns-in-Ok-clause-entered : goal.returns-in-Ok-clause-entered
returns-in-Ok-clause-entered c =
    let accounts = c.args.standings.now.accounts in
    sym (hit_same c.args.who (accounts_at accounts c.args.validators.now.items) c.in-Ok.field-0 c.requires.rising.rising
    (subst (λ places. slice_get (accounts_at accounts places) c.in-Ok.field-0 ≡ Some c.args.who) c.as_slice.ensures.value c.in-Ok.ensures.found))

pub returns-in-Err-clause-within : goal.returns-in-Err-clause-within
returns-in-Err-clause-within c =
    let accounts = c.args.standings.now.accounts in
    subst (AreWithin accounts) (sym c.put_at.ensures)
    (within_inserted accounts c.args.validators.now.items c.in-Err.rank c.args.place c.requires.rising.within (slice_get_within accounts c.args.place c.args.who c.requires.there))

pub returns-in-Err-clause-entered : goal.returns-in-Err-clause-entered
returns-in-Err-clause-entered c =
    let accounts = c.args.standings.now.accounts in
    let places = c.args.validators.now.items in
    let within : c.in-Err.rank ≤ length (accounts_at accounts places) = omega (arith, c.in-Err.ensures.range, ap length c.as_slice.ensures.value, count_at accounts places c.requires.rising.within) in
    ap (accounts_at accounts) c.put_at.ensures
    ∙ accounts_inserted accounts places c.in-Err.rank c.args.place c.args.who c.requires.rising.within c.requires.there
    ∙ missed c.args.who (accounts_at accounts places) c.in-Err.rank within
    (subst (λ places. BelongsAt c.args.who (accounts_at accounts places) c.in-Err.rank) c.as_slice.ensures.value c.in-Err.ensures.missed)
