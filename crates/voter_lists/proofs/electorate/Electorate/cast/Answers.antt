-- The place of an account is one of those that there are.
use Rattle.std.proofs.Common.{◌∙◌, sym}
use Rattle.std.proofs.lemmas.Option.{slice_get_within}
use Rattle.voter_lists.proofs.electorate.Electorate.cast.Goals as goal

pub cast-requires-clause-there : goal.cast-requires-clause-there
cast-requires-clause-there c =
    slice_get_within c.self.inside.ranking.standings.now.accounts c.in-Some.place c.args.who
    (c.place_from.ensures.stand.standing c.args.who c.in-Some.place (sym c.place_from.ensures.place ∙ c.in-Some.is))
