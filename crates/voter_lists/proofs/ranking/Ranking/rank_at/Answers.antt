-- The table has an entry of each place.
use Rattle.std.proofs.Common.{◌≡◌, ◌<◌, ◌∙◌, length, get_or, ap, sym, arith}
use Rattle.std.proofs.lemmas.Option.{same_Some, slice_get-get_or}
use Rattle.voter_lists.specs.Ranking.{no_rank, rank_in}
use Rattle.voter_lists.proofs.ranking.Ranking.rank_at.Goals as goal

pub returns : goal.returns
returns c who there =
    let ranks = c.args.self.now.ranks.items in
    let within : c.args.place < length ranks = omega (arith, c.requires.there, c.requires.ranking.told.count) in
    let entry : c.index.result.now ≡ get_or ranks c.args.place no_rank =
    c.index.ensures ∙ same_Some (get_or ranks c.args.place c.index.result.now) (get_or ranks c.args.place no_rank)
    (sym (slice_get-get_or ranks c.args.place c.index.result.now within) ∙ slice_get-get_or ranks c.args.place no_rank within) in
    c.rank_in.ensures ∙ ap rank_in entry ∙ c.requires.ranking.told.tells c.args.place who there
