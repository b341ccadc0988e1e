use Rattle.std.proofs.Common.{ap, length, arith}
use Rattle.account_places.specs.Places.{by_account}
use Rattle.stake_ledger.proofs.PlaceLemmas.{as_many_placed}
use Rattle.stake_ledger.proofs.rows.Rows.count.Goals as goal

pub returns : goal.returns
returns c =
    omega (
      arith,
      c.len.ensures,
      c.self.invariant.count,
      as_many_placed c.self.inside.rows.items (by_account c.self.inside.places),
      ap length c.self.view_is,
    )
