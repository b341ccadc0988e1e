-- What is noted of accounts stands at their places, and names others by theirs.
use Rattle.std.specs.Prelude.{◌≡◌, ℕ, List, Option, Some, None, [], ◌∷◌, length, map, get_or, slice_get}
use Rattle.npos_base.specs.declared.account.AccountId.{AccountId}
use Rattle.account_places.specs.Places.{by_account, Stand}
use Rattle.voter_lists.specs.declared.standing.Standing.{Standing}
use Rattle.voter_lists.specs.Noted.{Noted, IsPlaced, standing_noted}
use Rattle.voter_lists.specs.Roles.{RoleList}

-- the roles, and the accounts in the order of their places
pub record PlacedRoles : Type 0 where
  pub roles : RoleList
  pub accounts : List AccountId

-- an account with its standing before others, where it has one
abbrev pub with_some : AccountId → Option Standing → RoleList → RoleList
with_some account None roles = roles
with_some account (Some standing) roles = (account, standing) ∷ roles

-- the accounts that have a standing at their places
abbrev pub standings_placed : List (Option Standing) → List (AccountId × ℕ) → RoleList
standings_placed standings [] = []
standings_placed standings (entry ∷ entries) =
    with_some entry.0 (get_or standings entry.1 None) (standings_placed standings entries)

-- the standings that rows note of accounts at such places
abbrev pub standings_in : List AccountId → List Noted → List (Option Standing)
standings_in accounts rows = map (standing_noted accounts) rows

-- there is a row for each account at its place, and each whom it names has a place
pub record AreBeside (rows : List Noted) (accounts : List AccountId) : Type 0 where
  pub stand : Stand accounts (by_account accounts)
  pub count : length rows ≡ length accounts
  pub placed : (place : ℕ) (row : Noted) → slice_get rows place ≡ Some row → IsPlaced accounts row
