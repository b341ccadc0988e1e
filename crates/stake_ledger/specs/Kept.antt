-- What the books keep: the equation, and running totals that are the sums.
use Rattle.std.specs.Prelude.{◌≡◌}
use Rattle.stake_ledger.specs.declared.totals.Totals.{Totals}
use Rattle.stake_ledger.specs.Ledger.{Ledger, totals_of, IsBalanced}

pub record IsKept (ledger : Ledger) (totals : Totals) : Type 0 where
  pub balanced : IsBalanced ledger
  pub running : totals ≡ totals_of ledger
