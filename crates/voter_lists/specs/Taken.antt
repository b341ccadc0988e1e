-- What holds of roles and of bags, so that they can be made anew from what they show: the roles one
-- by one, and the accounts in the order in which they are walked.
use Rattle.std.specs.Prelude.{◌≡◌, ◌≤◌, false, List, [], ◌∷◌, length, All, None}
use Rattle.std.specs.List.{IsDistinct, list_any}
use Rattle.std.specs.List.Sorted.{IsStrictlySortedBy}
use Rattle.std.specs.Map.{keys_of}
use Rattle.npos_base.specs.declared.account.AccountId.{AccountId}
use Rattle.npos_base.specs.Account.{account_cmp, same_account}
use Rattle.npos_base.specs.declared.limits.TheConstants.{MOST_NOMINATIONS, MOST_VALIDATORS, WHOLE_FRACTION}
use Rattle.voter_lists.specs.declared.standing.Standing.{Standing}
use Rattle.voter_lists.specs.declared.standing.Standing.TheVariants as standing
use Rattle.voter_lists.specs.declared.standing.Role.{Role}
use Rattle.voter_lists.specs.declared.standing.Role.TheVariants as role
use Rattle.voter_lists.specs.Roles.{RoleList, validators_of, has_repeated_account, nominated, validate_refusal, validating}
use Rattle.voter_lists.specs.Bags.{Order, Listing, walk}

-- somebody is named, at most 24, nobody twice, and not who names them
pub record IsNomination (who : AccountId) (targets : List AccountId) : Type 0 where
  pub some : 1 ≤ length targets
  pub few : length targets ≤ MOST_NOMINATIONS
  pub distinct : has_repeated_account targets ≡ false
  pub others : list_any (λ target. same_account target who) targets ≡ false

-- An account can take a role: as a nominator of such targets, whatever those do themselves, or as a
-- validator where `validate` would make it one.
abbrev pub CanTake : RoleList → AccountId → Role → List AccountId → Type 0
CanTake roles who role.Nobody targets = ⊥
CanTake roles who role.Nominator targets = IsNomination who targets
CanTake roles who (role.Validator commission) targets = validate_refusal roles who commission ≡ None

-- an account takes a role in place of any other; nobody takes none
abbrev pub with_role : RoleList → AccountId → Role → List AccountId → RoleList
with_role roles who role.Nobody targets = roles
with_role roles who role.Nominator targets = nominated roles who targets
with_role roles who (role.Validator commission) targets = validating roles who commission

-- what an account with a role does
abbrev pub IsSoundStanding : AccountId → Standing → Type 0
IsSoundStanding who (standing.Nominator targets) = IsNomination who targets
IsSoundStanding who (standing.Validator commission) = commission ≤ WHOLE_FRACTION

-- roles by rising account, with no more validators than there may be
pub record AreSound (roles : RoleList) : Type 0 where
  pub rising : IsStrictlySortedBy account_cmp (keys_of roles)
  pub few : length (validators_of roles) ≤ MOST_VALIDATORS
  pub each : All (λ row. IsSoundStanding row.0 row.1) roles

-- no account stands in a higher bag than one before it
abbrev pub NeverRises : Order → Type 0
NeverRises [] = Unit {0}
NeverRises (entry ∷ order) = All (λ later. later.1 ≤ entry.1) order × NeverRises order

-- bags in the order of their walk: each account once, in a bag that there is
pub record IsWalked (listing : Listing) : Type 0 where
  pub falls : NeverRises listing.order
  pub once : IsDistinct same_account (walk listing.order)
  pub numbered : All (λ entry. entry.1 ≤ length listing.thresholds) listing.order
