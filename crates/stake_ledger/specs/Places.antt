-- Rows that stand at the places of accounts.
use Rattle.std.specs.Prelude.{◌≡◌, ℕ, ◌<◌, List, Some, [], ◌∷◌, length, get_or}
use Rattle.std.specs.List.Sorted.{IsStrictlySortedBy}
use Rattle.std.specs.Map.{keys_of}
use Rattle.npos_base.specs.declared.account.AccountId.{AccountId}
use Rattle.npos_base.specs.Account.{account_cmp}
use Rattle.account_places.specs.Places.{place_in}
use Rattle.stake_ledger.specs.declared.row.Row.{Row}
use Rattle.stake_ledger.specs.Rows.{empty_row}

-- the rows by account, of rows that stand at the accounts' places
abbrev pub rows_placed : List Row → List (AccountId × ℕ) → List (AccountId × Row)
rows_placed rows [] = []
rows_placed rows (entry ∷ entries) =
    (entry.0, get_or rows entry.1 empty_row) ∷ rows_placed rows entries

-- each account has a place of its own among the rows, and each row an account
pub record ArePlaced (rows : List Row) (places : List (AccountId × ℕ)) : Type 0 where
  pub count : length places ≡ length rows
  pub ordered : IsStrictlySortedBy account_cmp (keys_of places)
  pub within : (who : AccountId) (place : ℕ) → place_in places who ≡ Some place
      → place < length rows
  pub apart : (who other : AccountId) (place : ℕ) → place_in places who ≡ Some place
      → place_in places other ≡ Some place → other ≡ who
