-- Who has no place has no standing.
use Rattle.std.proofs.Common.{◌≡◌, ◌∙◌, None, ap, sym}
use Rattle.account_places.specs.Places.{place_in, by_account}
use Rattle.voter_lists.specs.Roles.{role_in, targets_in}
use Rattle.voter_lists.specs.Standings.{standings_in}
use Rattle.voter_lists.proofs.StandingLemmas.{standing_nowhere}
use Rattle.voter_lists.proofs.standings.Standings.noted.Goals as goal

pub returns-in-None-clause-role : goal.returns-in-None-clause-role
returns-in-None-clause-role c who is =
    let nowhere : place_in (by_account c.self.inside.places) who ≡ None = rw (← c.self.view_is) at (sym is ∙ c.in-None.is) in
    rw (← c.self.view_is) (ap role_in (sym (standing_nowhere (standings_in c.self.inside.places c.self.inside.rows.items) c.self.inside.places who nowhere)))

pub returns-in-None-clause-targets : goal.returns-in-None-clause-targets
returns-in-None-clause-targets c who is =
    let nowhere : place_in (by_account c.self.inside.places) who ≡ None = rw (← c.self.view_is) at (sym is ∙ c.in-None.is) in
    c.none.ensures ∙ rw (← c.self.view_is) (ap targets_in (sym (standing_nowhere (standings_in c.self.inside.places c.self.inside.rows.items) c.self.inside.places who nowhere)))
