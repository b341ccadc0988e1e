use Rattle.std.proofs.Common.{◌≡◌, ◌∙◌, sym, arith}
use Rattle.std.proofs.lemmas.Option.{slice_get-get_or}
use Rattle.account_places.specs.Places.{by_account, Stand}
use Rattle.account_places.proofs.OrderLemmas.{at_rank, somebody_at, still_none}
use Rattle.account_places.proofs.places.Places.in_order.Goals as goal

pub returns-then-count_below-rank : goal.returns-then-count_below-rank
returns-then-count_below-rank c =
    let all : c.deref-account-items.result.now ≡ c.args.self.now = c.deref-account-items.ensures.value ∙ c.self.view_is in
    let slice : c.as_slice.result.now ≡ c.args.self.now = c.as_slice.ensures.value ∙ c.self.view_is in
    let stand : Stand c.args.self.now (by_account c.args.self.now) = rw c.self.view_is at c.self.invariant.stand in
    let within = rw all at c.loop-account-test.true in
    let counted = rw (slice, all, c.if-count_below-rank.true) at c.count_below.ensures in
    rw all (at_rank c.args.self.now _ c.loop-account.account-index c.args.rank stand (slice_get-get_or _ _ _ within) (sym counted))

pub loop-account-preserved : goal.loop-account-preserved
loop-account-preserved c =
    let all : c.deref-account-items.result.now ≡ c.args.self.now = c.deref-account-items.ensures.value ∙ c.self.view_is in
    let slice : c.as_slice.result.now ≡ c.args.self.now = c.as_slice.ensures.value ∙ c.self.view_is in
    let within = rw all at c.loop-account-test.true in
    let counted = rw (slice, all) at c.count_below.ensures in
    still_none c.args.self.now c.loop-account.account-index c.args.rank _ within c.loop-account.invariant (λ is. c.if-count_below-rank.false (counted ∙ is))

pub unreachable-requires : goal.unreachable-requires
unreachable-requires c =
    let all : c.deref-account-items.result.now ≡ c.args.self.now = c.deref-account-items.ensures.value ∙ c.self.view_is in
    let stand : Stand c.args.self.now (by_account c.args.self.now) = rw c.self.view_is at c.self.invariant.stand in
    let past = rw all at c.loop-account-test.false in
    let (who, place, within, there, counted) = somebody_at c.args.self.now c.args.rank stand (omega (arith, c.requires, stand.count)) in
    c.loop-account.invariant who place (omega (arith, within, past)) there counted
