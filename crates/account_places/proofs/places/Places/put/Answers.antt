-- The account comes behind those that have places.
use Rattle.std.proofs.Common.{rules, ◌≡◌, ◌∙◌, ap, sym, length, ◌++◌, ◌∷◌, [], Some, slice_get, length-append, arith}
use Rattle.std.specs.BTreeMap.{insert_entry}
use Rattle.npos_base.specs.Account.{account_cmp}
use Rattle.account_places.specs.Places.{by_account, Stand}
use Rattle.account_places.proofs.StandLemmas.{stand_more, stand_apart, by_account_more, place_last, slice_last}
use Rattle.account_places.proofs.IndexLemmas.{finds_before}
use Rattle.account_places.proofs.places.Places.put.Goals as goal

pub widen-requires-clause-apart : goal.widen-requires-clause-apart
widen-requires-clause-apart c =
    rw (c.as_slice.ensures.value, c.reserve.ensures.items) (stand_apart c.self.inside.accounts.items (by_account c.self.inside.accounts.items) c.self.invariant.stand)

pub invariant_of-self-2 : goal.invariant_of-self-2
invariant_of-self-2 c =
    let accounts = c.self.inside.accounts.items in
    let who = c.args.who in
    let items : c.push.new.self.items ≡ accounts ++ who ∷ [] = search rules in
    let stand : Stand (accounts ++ who ∷ []) (by_account (accounts ++ who ∷ [])) = stand_more accounts who c.self.invariant.stand (rw (← c.self.view_is) at c.requires) in
    let slice : c.as_slice.result.now ≡ accounts = c.as_slice.ensures.value ∙ c.reserve.ensures.items in
    let place : c.len.result ≡ length accounts = omega (arith, c.len.ensures, c.as_slice.ensures.len, ap length slice) in
    let before = rw slice at c.widen.ensures in
    let here : slice_get (accounts ++ who ∷ []) c.len.result ≡ Some who = rw place (slice_last accounts who) in
    let more = c.in_ok-note.ensures.ok (accounts ++ who ∷ []) (stand_apart _ _ stand) here (rw place (finds_before _ _ _ accounts who before)) in
    rw items record {
      stand = stand;
      whole = rw (length-append accounts (who ∷ []), ← place) more;
    }

pub returns-clause-places : goal.returns-clause-places
returns-clause-places c =
    let items : c.push.new.self.items ≡ c.self.inside.accounts.items ++ c.args.who ∷ [] = search rules in
    rw (← c.self.view_is, items) (by_account_more c.self.inside.accounts.items c.args.who
    ∙ ap (insert_entry account_cmp (by_account c.self.inside.accounts.items) c.args.who)
    (sym c.self.invariant.stand.count))

pub returns-clause-place : goal.returns-clause-place
returns-clause-place c =
    let items : c.push.new.self.items ≡ c.self.inside.accounts.items ++ c.args.who ∷ [] = search rules in
    rw (← c.self.view_is, items) (place_last c.self.inside.accounts.items c.args.who)
