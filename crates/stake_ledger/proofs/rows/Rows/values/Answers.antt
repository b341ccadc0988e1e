use Rattle.std.proofs.Common.{ℕ, ◌≡◌, Some, arith}
use Rattle.std.proofs.lemmas.List.{length_push}
use Rattle.npos_base.specs.declared.account.AccountId.{AccountId}
use Rattle.account_places.specs.Places.{by_account, place_in}
use Rattle.stake_ledger.proofs.BookRowLemmas.{next_placed, rest_behind, values_more}
use Rattle.stake_ledger.proofs.rows.Rows.values.Goals as goal

pub index-requires : goal.index-requires
index-requires c =
    let places = by_account c.self.inside.places in
    let there : place_in places c.in-Some.who ≡ Some c.in-Some.place =
    next_placed places c.loop-who.yielded _ _ (c.in-Some.who, c.in-Some.place) c.self.invariant.ordered c.loop-who.invariant.all c.in-Some.ensures.steps in
    omega (arith, c.self.invariant.within c.in-Some.who c.in-Some.place there)

pub loop-who-preserved : goal.loop-who-preserved
loop-who-preserved c =
    let places = by_account c.self.inside.places in
    let entry : AccountId × ℕ = (c.in-Some.who, c.in-Some.place) in
    let there : place_in places c.in-Some.who ≡ Some c.in-Some.place =
    next_placed places c.loop-who.yielded _ _ entry c.self.invariant.ordered c.loop-who.invariant.all c.in-Some.ensures.steps in
    record {
      all = rest_behind places c.loop-who.yielded _ _ entry c.loop-who.invariant.all c.in-Some.ensures.steps;
      made =
          values_more c.self.inside.rows.items c.loop-who.yielded entry c.loop-who.values.items c.push_within.new.self.items c.in_ok-value.value c.index.result.now
          c.push_within.ensures.items c.loop-who.invariant.made c.in_ok-value.ensures c.index.ensures (c.self.invariant.within c.in-Some.who c.in-Some.place there);
      spare = omega (arith, c.loop-who.invariant.spare, c.push_within.ensures.spare, length_push c.loop-who.yielded entry);
    }
