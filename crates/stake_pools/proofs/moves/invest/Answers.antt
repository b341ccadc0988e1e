use Rattle.std.proofs.Common.{◌∙◌, ◌≤◌, ap, sym, subst, arith}
use Rattle.stake_ledger.specs.declared.row.Row.{Row}
use Rattle.stake_ledger.specs.Rows.{activated}
use Rattle.stake_ledger.specs.Ledger.{Ledger, row_at, changed}
use Rattle.stake_pools.proofs.MoveLemmas.{invested_is, pool_after}
use Rattle.stake_pools.proofs.moves.invest.Goals as goal

pub bond-requires-clause-there : goal.bond-requires-clause-there
bond-requires-clause-there c =
    subst (λ (l : Ledger). c.args.value ≤ (row_at l c.args.pool).free) (sym c.in_ok-send.ensures)
    (omega (arith, ap (λ (row : Row). row.free) (pool_after c.args.who c.args.pool c.args.value c.args.book.now)))

pub returns : goal.returns
returns c =
    c.bond.ensures ∙ (ap (changed c.args.pool (activated c.args.value)) c.in_ok-send.ensures
    ∙ invested_is c.args.who c.args.pool c.args.value c.args.book.now)
