-- No more accounts have a standing than have a place.
use Rattle.std.proofs.Common.{◌∙◌, ◌≤◌, length, sym, subst}
use Rattle.account_places.specs.Places.{by_account}
use Rattle.voter_lists.proofs.StandingLemmas.{few_placed}
use Rattle.voter_lists.specs.Standings.{standings_in, standings_placed}
use Rattle.voter_lists.proofs.standings.Standings.count.Goals as goal

pub returns-clause-most : goal.returns-clause-most
returns-clause-most c =
    rw (← c.self.view_is)
    (subst (λ n. length (standings_placed (standings_in c.self.inside.places c.self.inside.rows.items) (by_account c.self.inside.places)) ≤ n)
    (c.self.invariant.stand.count ∙ sym c.count.ensures.count)
    (few_placed (standings_in c.self.inside.places c.self.inside.rows.items) (by_account c.self.inside.places)))
