use Rattle.std.proofs.Common.{◌≡◌, ◌+◌, ◌≤◌, ◌++◌, length, map}
use Rattle.account_places.specs.Places.{by_account}
use Rattle.stake_ledger.specs.Places.{rows_placed}
use Rattle.stake_ledger.specs.BookRows.{book_row}
use Rattle.stake_ledger.proofs.rows.Rows.values.Given as goal

-- the accounts so far have their rows, and there is room for the others
abbrev pub invariant-loop-who : goal.invariant-loop-who
invariant-loop-who l = record {
  all : l.yielded ++ l.who-iterator ≡ by_account l.self-inside.places;
  made : l.values.items ≡ map book_row (rows_placed l.self-inside.rows.items l.yielded);
  spare : length (by_account l.self-inside.places) ≤ l.values.spare + length l.yielded;
}
