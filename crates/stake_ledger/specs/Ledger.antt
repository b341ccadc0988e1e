-- The books: a row for each known account, and what came in and went out.
use Rattle.std.specs.Prelude.{◌≡◌, ◌≢◌, ℕ, ◌+◌, ◌-◌, ◌^◌, ◌≤◌, List, Option, [], sum_by, All, unwrap_or}
use Rattle.std.specs.BTreeMap.{insert_entry, is_at}
use Rattle.std.specs.List.Sorted.{IsStrictlySortedBy}
use Rattle.std.specs.Map.{keys_of, values_of, lookup}
use Rattle.npos_base.specs.declared.account.AccountId.{AccountId}
use Rattle.npos_base.specs.Account.{account_cmp}
use Rattle.stake_ledger.specs.declared.row.Row.{Row}
use Rattle.stake_ledger.specs.declared.totals.Totals.{Totals}
use Rattle.stake_ledger.specs.Chunks.{chunk_sum, IsSchedule}
use Rattle.stake_ledger.specs.Rows.{empty_row, worth}

-- rows by rising account; genesis is what the endowments gave
pub record Ledger : Type 0 where
  pub rows : List (AccountId × Row)
  pub genesis : ℕ
  pub minted : ℕ
  pub burned : ℕ

abbrev pub empty_ledger : Ledger
empty_ledger = record { rows = []; genesis = 0; minted = 0; burned = 0 }

-- the row of an account, which has nothing where it has none
abbrev pub row_of_entries : AccountId → List (AccountId × Row) → Option Row
row_of_entries who rows = lookup (is_at (account_cmp who)) rows

abbrev pub row_in : List (AccountId × Row) → AccountId → Row
row_in rows who = unwrap_or (lookup (is_at (account_cmp who)) rows) empty_row

abbrev pub row_of : Ledger → AccountId → Option Row
row_of ledger who = lookup (is_at (account_cmp who)) ledger.rows

abbrev pub row_at : Ledger → AccountId → Row
row_at ledger who = row_in ledger.rows who

-- the rows, and the ledger, with one account's row changed
abbrev pub with_row : AccountId → (Row → Row) → List (AccountId × Row) → List (AccountId × Row)
with_row who change rows = insert_entry account_cmp rows who (change (row_in rows who))

abbrev pub changed : AccountId → (Row → Row) → Ledger → Ledger
changed who change ledger = record ledger { rows = with_row who change ledger.rows }

-- a sum over all accounts
abbrev pub total : (Row → ℕ) → Ledger → ℕ
total part ledger = sum_by part (values_of ledger.rows)

abbrev pub totals_of : Ledger → Totals
totals_of ledger = record {
  free = total (λ row. row.free) ledger;
  active = total (λ row. row.active) ledger;
  unlocking = total (λ row. chunk_sum row.chunks) ledger;
  deposits = total (λ row. row.held) ledger;
  minted = ledger.minted;
  burned = ledger.burned;
  issuance = ledger.genesis + ledger.minted - ledger.burned;
}

-- the most that may ever be issued
abbrev pub issuance_cap : ℕ
issuance_cap = 2 ^ 63 - 1

-- the books' equation: what the accounts hold and what was burned is what was issued
pub record IsBalanced (ledger : Ledger) : Type 0 where
  pub distinct : IsStrictlySortedBy account_cmp (keys_of ledger.rows)
  pub schedules : All (λ row. IsSchedule row.chunks) (values_of ledger.rows)
  pub equation : total worth ledger + ledger.burned ≡ ledger.genesis + ledger.minted
  pub capped : ledger.genesis + ledger.minted ≤ issuance_cap

-- every account but this one has the row that it had
abbrev pub OthersStay : AccountId → Ledger → Ledger → Type 0
OthersStay who old new = (other : AccountId) → other ≢ who → row_of new other ≡ row_of old other
