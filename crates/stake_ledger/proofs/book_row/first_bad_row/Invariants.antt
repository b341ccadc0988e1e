use Rattle.std.proofs.Common.{◌≡◌, None, drop}
use Rattle.stake_ledger.specs.BookRows.{first_bad_row}
use Rattle.stake_ledger.proofs.BookRowLemmas.{found_behind}
use Rattle.stake_ledger.proofs.book_row.first_bad_row.Given as goal

-- the rows that are left, behind the one before, tell the answer
abbrev pub invariant-loop-place : goal.invariant-loop-place
invariant-loop-place l = found_behind l.place (first_bad_row l.before (drop l.place l.rows)) ≡ first_bad_row None l.rows
