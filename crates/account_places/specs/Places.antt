-- Where accounts stand: each has a place of its own.
use Rattle.std.specs.Prelude.{◌≡◌, ℕ, ◌+◌, List, Option, Some, [], ◌∷◌, length, slice_get}
use Rattle.std.specs.BTreeMap.{is_at, insert_entry}
use Rattle.std.specs.Map.{lookup}
use Rattle.npos_base.specs.declared.account.AccountId.{AccountId}
use Rattle.npos_base.specs.Account.{account_cmp}

-- the place of an account, where it has one
abbrev pub place_in : List (AccountId × ℕ) → AccountId → Option ℕ
place_in places who = lookup (is_at (account_cmp who)) places

-- accounts with the places from this one on, put among those before them, by rising account
abbrev pub join_from : List (AccountId × ℕ) → ℕ → List AccountId → List (AccountId × ℕ)
join_from places next [] = places
join_from places next (account ∷ accounts) =
    join_from (insert_entry account_cmp places account next) (next + 1) accounts

-- accounts with their places, by rising account
abbrev pub by_account : List AccountId → List (AccountId × ℕ)
by_account accounts = join_from [] 0 accounts

-- an account's place is where it stands among the accounts
pub record Stand (accounts : List AccountId) (places : List (AccountId × ℕ)) : Type 0 where
  pub count : length places ≡ length accounts
  pub standing : (who : AccountId) (place : ℕ) → place_in places who ≡ Some place
      → slice_get accounts place ≡ Some who
  pub placed : (who : AccountId) (place : ℕ) → slice_get accounts place ≡ Some who
      → place_in places who ≡ Some place
