use Rattle.std.proofs.Common.{rules, ◌≡◌, length, ◌++◌, ◌∷◌, [], None}
use Rattle.std.specs.BTreeMap.{insert_entry}
use Rattle.npos_base.specs.Account.{account_cmp}
use Rattle.account_places.specs.Places.{place_in, by_account}
use Rattle.stake_ledger.proofs.PlaceLemmas.{unplaced, placed_opened}
use Rattle.stake_ledger.proofs.rows.Rows.append.Goals as goal

pub invariant_of-self-2 : goal.invariant_of-self-2
invariant_of-self-2 c =
    let rows = c.self.inside.rows.items in
    let places = by_account c.self.inside.places in
    let items : c.push.new.self.items ≡ rows ++ c.args.row ∷ [] = search rules in
    let more : by_account c.put.new.self ≡ insert_entry account_cmp places c.args.who (length places) = search rules in
    let nowhere : place_in places c.args.who ≡ None = unplaced rows places c.args.who (rw (← c.self.view_is) at c.requires) in
    rw (items, more) (placed_opened rows places c.args.who c.args.row c.self.invariant nowhere)
