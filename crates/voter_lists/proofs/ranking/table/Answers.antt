-- One more validator is entered at its place.
use Rattle.std.proofs.Common.{◌≡◌, ◌<◌, ◌≤◌, ◌∙◌, length, Some, get_or, slice_get, ap, sym, arith}
use Rattle.std.proofs.lemmas.Option.{slice_get-get_or}
use Rattle.npos_base.specs.declared.account.AccountId.{AccountId}
use Rattle.voter_lists.specs.Noted.{accounts_at}
use Rattle.voter_lists.specs.Votes.{rank_of}
use Rattle.voter_lists.proofs.NamedLemmas.{account_at, count_at}
use Rattle.voter_lists.proofs.RankingLemmas.{told_set, all_entered}
use Rattle.voter_lists.proofs.ValidatorLemmas.{ranked_rise}
use Rattle.voter_lists.proofs.ranking.table.Goals as goal

pub overflow_cast-rank : goal.overflow_cast-rank
overflow_cast-rank c = omega (arith, c.loop-rank-test.true, c.requires.ranked.few, count_at c.args.standings.now.accounts c.args.validators.now c.requires.within)

pub loop-rank-preserved : goal.loop-rank-preserved
loop-rank-preserved c =
    let accounts = c.args.standings.now.accounts in
    let places = c.args.validators.now in
    let validators = accounts_at accounts places in
    let rank = c.loop-rank.rank in
    let place = get_or places rank 0 in
    let nobody : AccountId = record { hi = 0; lo = 0 } in
    let below : rank < length validators = omega (arith, c.loop-rank-test.true, count_at accounts places c.requires.within) in
    let few : rank < 65535 = omega (arith, below, c.requires.ranked.few) in
    let there : slice_get validators rank ≡ Some (get_or validators rank nobody) = slice_get-get_or validators rank nobody below in
    let stands : slice_get accounts place ≡ Some (get_or validators rank nobody) =
    sym (account_at accounts places rank place c.requires.within (slice_get-get_or places rank 0 c.loop-rank-test.true)) ∙ there in
    told_set c.loop-rank.ranks.items accounts validators rank (get_or validators rank nobody) c.count.ensures.stand
    (ranked_rise c.args.standings.now.roles validators c.requires.ranked) there few c.loop-rank.invariant place stands

pub returns : goal.returns
returns c =
    let accounts = c.args.standings.now.accounts in
    let validators = accounts_at accounts c.args.validators.now in
    let all : length validators ≤ c.loop-rank.rank = omega (arith, c.loop-rank-test.false, count_at accounts c.args.validators.now c.requires.within) in
    record {
      count = c.loop-rank.invariant.count;
      tells = λ place who there.
          c.loop-rank.invariant.tells place who there ∙ all_entered validators c.loop-rank.rank who all ∙ ap (λ validators. rank_of validators who) c.requires.ranked.ranked;
    }
