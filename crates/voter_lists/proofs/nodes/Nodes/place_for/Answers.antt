-- One more account has a place, and is in no bag.
use Rattle.std.proofs.Common.{◌≡◌, ◌∙◌, ap, sym, subst, refl, length, Some, None}
use Rattle.npos_base.proofs.AccountOrder.{account_total, same_ordered, same_turned}
use Rattle.npos_base.proofs.EntryLemmas.{lookup_other}
use Rattle.account_places.specs.Places.{place_in, by_account}
use Rattle.voter_lists.specs.Nodes.{NotedAnew, Stand}
use Rattle.voter_lists.proofs.NodeLemmas.{stand_grown, bags_grown, homes_grown}
use Rattle.voter_lists.proofs.nodes.Nodes.place_for.Goals as goal

pub returns-clause-stays : goal.returns-clause-stays
returns-clause-stays c =
    let old = c.args.self.now in
    let who = c.args.who in
    let new = c.reserve_key.new.self in
    let was = place_in (by_account old.places) in
    let now = place_in (by_account c.put.new.self) in
    let same = c.in_ok-reserve_key.ensures.same in
    let grows = c.reserve_key.ensures.grows in
    let room = rw c.count-place.ensures.count at c.in_ok-reserve_key.ensures.room in
    let absent : was who ≡ None = sym c.find.ensures.place ∙ c.in_default.is in
    let anew : NotedAnew was now who (Some (length old.places)) = record {
      here = c.in_ok-put.ensures.place;
      others = λ q differ. ap (λ places. place_in places q) c.in_ok-put.ensures.places ∙ lookup_other account_total who _ q (by_account old.places) (same_ordered who q (same_turned q who differ));
    } in
    record {
      lists = rw c.in_ok-put.ensures.ok (bags_grown old.rings new old.places who was now old.bags c.requires same grows room absent anew);
      count = refl;
      homes = λ q. homes_grown old.rings new old.places who was now old.bags c.requires same grows room absent anew q;
      standing = subst (λ accounts. Stand new accounts now old.bags) (sym c.in_ok-put.ensures.ok) (stand_grown old.rings new old.places who was now old.bags c.requires same grows room absent anew);
    }
