-- The place of an account is where it is found.
use Rattle.account_places.proofs.StandLemmas.{place_found}
use Rattle.account_places.proofs.places.Places.find.Goals as goal

pub returns-clause-place : goal.returns-clause-place
returns-clause-place c =
    rw (← c.self.view_is)
    (place_found c.self.inside.accounts.items c.args.who c.find.result c.self.invariant.stand
    (rw c.as_slice.ensures.value at c.find.ensures.found) (rw c.as_slice.ensures.value at c.find.ensures.absent))
