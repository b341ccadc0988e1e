-- Accounts that have a row.
use Rattle.std.specs.Prelude.{◌+◌, Bool, false, nat_lt, List, map, Option, Some, None, is_some}
use Rattle.std.specs.List.{find}
use Rattle.std.specs.List.Sorted.{IsStrictlySortedBy}
use Rattle.npos_base.specs.declared.account.AccountId.{AccountId}
use Rattle.npos_base.specs.Account.{account_cmp, same_account}
use Rattle.stake_ledger.specs.declared.book_row.BookRow.{BookRow}
use Rattle.stake_ledger.specs.Chunks.{chunk_sum}

-- the row of an account, where it has one
abbrev pub row_of : List BookRow → AccountId → Option BookRow
row_of rows who = find (λ row. same_account row.who who) rows

abbrev pub has_row : List BookRow → AccountId → Bool
has_row rows who = is_some (row_of rows who)

-- something of the account is active or on its way out
abbrev pub is_bonded : Option BookRow → Bool
is_bonded None = false
is_bonded (Some row) = nat_lt 0 (row.active + chunk_sum row.chunks)

-- the rows rise by account
abbrev pub AreByAccount : List BookRow → Type 0
AreByAccount rows = IsStrictlySortedBy account_cmp (map (λ row. row.who) rows)
