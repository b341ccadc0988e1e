use Rattle.std.proofs.Common.{ap, sym, ◌∙◌, length, arith, slice_get}
use Rattle.std.specs.Map.{keys_of}
use Rattle.account_places.specs.Places.{by_account}
use Rattle.stake_ledger.proofs.PlaceLemmas.{as_many_placed, keys_placed}
use Rattle.stake_ledger.proofs.rows.Rows.account_at.Goals as goal

pub in_order-requires : goal.in_order-requires
in_order-requires c =
    omega (arith, c.requires, as_many_placed c.self.inside.rows.items (by_account c.self.inside.places), ap length c.self.view_is)

pub returns : goal.returns
returns c =
    ap (λ keys. slice_get keys c.args.i)
    (ap keys_of (sym c.self.view_is) ∙ keys_placed c.self.inside.rows.items (by_account c.self.inside.places)) ∙ c.in_order.ensures
