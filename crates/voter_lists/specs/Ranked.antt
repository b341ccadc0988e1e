-- The validators are kept beside the standings.
use Rattle.std.specs.Prelude.{◌≡◌, ◌≤◌, List, length}
use Rattle.std.specs.Map.{keys_of}
use Rattle.std.specs.List.Sorted.{IsStrictlySortedBy}
use Rattle.npos_base.specs.declared.account.AccountId.{AccountId}
use Rattle.npos_base.specs.Account.{account_cmp}
use Rattle.npos_base.specs.declared.limits.TheConstants.{MOST_VALIDATORS}
use Rattle.voter_lists.specs.Roles.{RoleList, validators_of}

-- the accounts are the validators of the roles, which rise, and are at most 2,048
pub record AreRanked (roles : RoleList) (accounts : List AccountId) : Type 0 where
  pub rising : IsStrictlySortedBy account_cmp (keys_of roles)
  pub ranked : accounts ≡ validators_of roles
  pub few : length accounts ≤ MOST_VALIDATORS
