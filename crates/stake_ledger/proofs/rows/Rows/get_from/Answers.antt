use Rattle.std.proofs.Common.{rules, ◌≡◌, Some, sym}
use Rattle.account_places.specs.Places.{place_in, by_account}
use Rattle.stake_ledger.proofs.PlaceLemmas.{row_found_there}
use Rattle.stake_ledger.proofs.rows.Rows.get_from.Goals as goal

pub returns : goal.returns
returns c =
    let there : place_in (by_account c.self.inside.places) c.args.who ≡ Some c.in_ok-place.place = search rules in
    sym (row_found_there _ _ _ _ _ _ c.self.invariant c.self.view_is there c.index.ensures)
