use Rattle.std.proofs.Common.{◌≡◌, take}
use Rattle.stake_ledger.specs.BookRows.{total_worth}
use Rattle.stake_ledger.proofs.book_row.total_worth.Given as goal

abbrev pub invariant-loop-row : goal.invariant-loop-row
invariant-loop-row l = l.total ≡ total_worth (take l.row-index l.rows)
