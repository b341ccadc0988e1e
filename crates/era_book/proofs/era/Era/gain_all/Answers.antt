use Rattle.std.proofs.Common.{ℕ, get_or, ◌∙◌, ap, sym}
use Rattle.std.proofs.lemmas.List.Sums.{fold_more}
use Rattle.npos_base.specs.declared.account.AccountId.{AccountId}
use Rattle.era_book.specs.Members.{Members, with_points}
use Rattle.era_book.proofs.era.Era.gain_all.Goals as goal

pub loop-who-preserved : goal.loop-who-preserved
loop-who-preserved c =
    let d : AccountId × ℕ = (record { hi = 0; lo = 0 }, 0) in
    c.gain.ensures
    ∙ ap (λ (members : Members). with_points members (get_or c.args.items.now c.loop-who.who-index d)) c.loop-who.invariant
    ∙ sym (fold_more with_points c.args.self.now c.args.items.now c.loop-who.who-index d c.loop-who-test.true)
