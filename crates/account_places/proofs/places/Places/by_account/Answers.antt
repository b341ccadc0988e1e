use Rattle.std.proofs.Common.{◌≡◌, ◌∙◌}
use Rattle.account_places.proofs.OrderLemmas.{by_account_next}
use Rattle.account_places.proofs.places.Places.by_account.Goals as goal

pub loop-place-preserved : goal.loop-place-preserved
loop-place-preserved c =
    let all : c.deref-account-items.result.now ≡ c.args.self.now = c.deref-account-items.ensures.value ∙ c.self.view_is in
    let within = rw all at c.loop-place-test.true in
    c.in_ok-insert.ensures.entries ∙ rw all (by_account_next _ c.args.self.now c.loop-place.place _ within c.loop-place.invariant)
