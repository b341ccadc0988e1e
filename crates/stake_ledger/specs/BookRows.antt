-- The rows of a book as values: which of them are bad, when their sums fail, and which books they
-- make.
use Rattle.std.specs.Prelude.{ℕ, ◌+◌, suc, Bool, false, not, ◌||◌, nat_eq, nat_lt, nat_le, if◌then◌else◌, List, [], ◌∷◌, length, map, sum_by, Option, Some, None, option_map}
use Rattle.std.specs.Ordering.{is_lt}
use Rattle.npos_base.specs.declared.account.AccountId.{AccountId}
use Rattle.npos_base.specs.Account.{account_cmp}
use Rattle.npos_base.specs.Refusal as every
use Rattle.stake_ledger.specs.declared.chunks.Chunk.{Chunk}
use Rattle.stake_ledger.specs.declared.chunks.TheConstants.{MOST_CHUNKS}
use Rattle.stake_ledger.specs.declared.row.Row.{Row}
use Rattle.stake_ledger.specs.declared.book_row.BookRow.{BookRow}
use Rattle.stake_ledger.specs.declared.rows_fault.RowsFault.{RowsFault}
use Rattle.stake_ledger.specs.declared.rows_fault.RowsFault.TheVariants.{BadRow, BadSum, NoMemory}
use Rattle.stake_ledger.specs.Rows.{worth}
use Rattle.stake_ledger.specs.Ledger.{Ledger, issuance_cap}

-- not above the one before, where there is one
abbrev pub falls_back : Option ℕ → ℕ → Bool
falls_back None release = false
falls_back (Some before) release = nat_le release before

-- a chunk is 0, or is not released later than the one before
abbrev pub has_bad_chunk : Option ℕ → List Chunk → Bool
has_bad_chunk before [] = false
has_bad_chunk before (chunk ∷ later) =
    nat_eq chunk.value 0 || falls_back before chunk.release || has_bad_chunk (Some chunk.release) later

-- the account is not above the one before, where there is one
abbrev pub is_out_of_order : Option AccountId → AccountId → Bool
is_out_of_order None who = false
is_out_of_order (Some before) who = not (is_lt (account_cmp before who))

-- A row behind that of another account, or behind none, is bad where its account is not above that
-- one, a chunk is 0, there are more than 32 chunks, or releases do not rise strictly.
abbrev pub is_bad_row : Option AccountId → BookRow → Bool
is_bad_row before row =
    is_out_of_order before row.who || nat_lt MOST_CHUNKS (length row.chunks) || has_bad_chunk None row.chunks

-- the place of the first bad row, where there is one, behind the row of an account or behind none
abbrev pub first_bad_row : Option AccountId → List BookRow → Option ℕ
first_bad_row before [] = None
first_bad_row before (row ∷ rows) =
    if is_bad_row before row then Some 0 else option_map suc (first_bad_row (Some row.who) rows)

-- the row of a book that the value stands for, with its account
abbrev pub entry_of : BookRow → AccountId × Row
entry_of row =
    (row.who, record { free = row.free; active = row.active; chunks = row.chunks; held = row.held })

-- what all rows hold together
abbrev pub total_worth : List BookRow → ℕ
total_worth rows = sum_by (λ row. worth (entry_of row).1) rows

-- What the rows hold and what was burned is not what the genesis gave and what was minted, or that
-- is more than may ever be issued.
abbrev pub is_bad_sum : List BookRow → ℕ → ℕ → ℕ → Bool
is_bad_sum rows genesis minted burned =
    not (nat_eq (total_worth rows + burned) (genesis + minted)) || nat_lt issuance_cap (genesis + minted)

-- the first bad row, or else that the sums fail
abbrev pub rows_fault : List BookRow → ℕ → ℕ → ℕ → Option RowsFault
rows_fault rows genesis minted burned = or_else (first_bad_row None rows) where
  or_else : Option ℕ → Option RowsFault
  or_else (Some place) = Some (BadRow place)
  or_else None = if is_bad_sum rows genesis minted burned then Some BadSum else None

-- a fault is the one that stands, or want of memory
abbrev pub IsDueFault : Option RowsFault → RowsFault → Type 0
IsDueFault due fault = every.IsDue NoMemory due fault

-- the books with these rows
abbrev pub ledger_of : List BookRow → ℕ → ℕ → ℕ → Ledger
ledger_of rows genesis minted burned =
    record { rows = map entry_of rows; genesis = genesis; minted = minted; burned = burned }

-- the row of a book as a value
abbrev pub book_row : AccountId × Row → BookRow
book_row entry = record {
  who = entry.0;
  free = entry.1.free;
  active = entry.1.active;
  chunks = entry.1.chunks;
  held = entry.1.held;
}

-- the rows of a book as values, by rising account
abbrev pub book_rows : Ledger → List BookRow
book_rows ledger = map book_row ledger.rows
