use Rattle.std.proofs.Common.{◌≡◌, ◌∙◌, ap, None}
use Rattle.stake_ledger.specs.declared.row.Row.{Row}
use Rattle.stake_ledger.specs.Rows.{unbonded, withdrawn}
use Rattle.stake_ledger.specs.Ledger.{Ledger, row_at, changed}
use Rattle.stake_ledger.specs.Calls.{unbond_amount, withdraw_refusal}
use Rattle.stake_ledger.proofs.LedgerLemmas.{row_in_put}
use Rattle.stake_pools.specs.Moves.{freed}
use Rattle.stake_pools.proofs.MoveLemmas.{twice, freed_row, withdraw_allowed}
use Rattle.stake_pools.proofs.moves.release.Goals as goal

pub unreachable-requires-in-Err-withdraw : goal.unreachable-requires-in-Err-withdraw
unreachable-requires-in-Err-withdraw c =
    let row : Row = row_at c.args.book.now c.args.pool in
    let after = c.in-Ok.ensures.meets.ok.1 in
    let here : row_at c.unbond.new.self c.args.pool ≡ unbonded (unbond_amount row c.args.amount) c.args.era row =
    ap (λ (l : Ledger). row_at l c.args.pool) after ∙ row_in_put c.args.pool (unbonded (unbond_amount row c.args.amount) c.args.era) c.args.book.now.rows in
    let allowed : withdraw_refusal (row_at c.unbond.new.self c.args.pool) ≡ None =
    ap withdraw_refusal here ∙ withdraw_allowed row c.args.amount c.args.era c.requires.unchunked c.requires.some c.requires.there in
    let refused = c.in-Err-withdraw.ensures.meets.refused in
    cc (allowed, refused)

pub returns : goal.returns
returns c =
    let row : Row = row_at c.args.book.now c.args.pool in
    c.in-Ok-withdraw.ensures.meets.ok.1 ∙ (ap (changed c.args.pool (withdrawn c.args.era)) c.in-Ok.ensures.meets.ok.1
    ∙ twice c.args.pool (withdrawn c.args.era) (unbonded (unbond_amount row c.args.amount) c.args.era) (freed c.args.amount) c.args.book.now
    (freed_row c.args.amount c.args.era row c.requires.unchunked c.requires.there))
