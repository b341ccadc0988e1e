-- Who has a rank is a validator.
use Rattle.std.proofs.Common.{◌∙◌, length, ap, sym, subst, is_some, arith}
use Rattle.voter_lists.specs.Noted.{accounts_at}
use Rattle.voter_lists.specs.RankedAt.{RiseAt}
use Rattle.voter_lists.specs.Votes.{rank_of}
use Rattle.voter_lists.proofs.NamedLemmas.{count_at}
use Rattle.voter_lists.proofs.PlaceLemmas.{rank_tells}
use Rattle.voter_lists.proofs.RankedPlaceLemmas.{rise_kept}
use Rattle.voter_lists.proofs.roles.Roles.rank.Goals as goal

pub rank_among-requires-clause-rising : goal.rank_among-requires-clause-rising
rank_among-requires-clause-rising c =
    let accounts = c.self.inside.standings.accounts in
    subst (RiseAt accounts) (sym c.as_slice.ensures.value) (rise_kept c.self.inside.standings c.self.inside.validators.items c.self.invariant accounts (λ place who there. there))

pub rank_among-requires-clause-few : goal.rank_among-requires-clause-few
rank_among-requires-clause-few c =
    omega (arith, ap length c.as_slice.ensures.value, c.self.invariant.ranked.few, count_at c.self.inside.standings.accounts c.self.inside.validators.items c.self.invariant.within)

pub returns-clause-some : goal.returns-clause-some
returns-clause-some c =
    ap is_some c.rank_among.ensures
    ∙ ap (λ validators. is_some (rank_of validators c.args.who)) (ap (accounts_at c.self.inside.standings.accounts) c.as_slice.ensures.value ∙ c.self.invariant.ranked.ranked)
    ∙ rw (← c.self.view_is) (rank_tells c.args.who c.self.inside.standings.roles c.self.invariant.ranked.rising)
