-- Who has no place has no standing.
use Rattle.voter_lists.proofs.MarkLemmas.{nowhere_standing}
use Rattle.voter_lists.proofs.standings.Standings.place_from.Goals as goal

pub returns-clause-absent : goal.returns-clause-absent
returns-clause-absent c =
    rw (← c.self.view_is) (nowhere_standing c.self.inside.rows.items c.self.inside.places c.args.who c.find_from.result c.find_from.ensures.place)
