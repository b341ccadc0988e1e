-- Roles are a list of accounts, each with its standing, by rising account.
use Rattle.std.specs.Prelude.{◌≡◌, ◌≢◌, ℕ, Bool, true, false, not, ◌||◌, ◌&&◌, nat_eq, nat_le, nat_lt, if◌then◌else◌, is_none, List, [], ◌∷◌, length, Option, Some, None}
use Rattle.std.specs.List.{list_any}
use Rattle.std.specs.Map.{lookup, remove_entry}
use Rattle.std.specs.BTreeMap.{is_at, insert_entry}
use Rattle.npos_base.specs.declared.account.AccountId.{AccountId}
use Rattle.npos_base.specs.Account.{account_cmp, same_account}
use Rattle.npos_base.specs.declared.limits.TheConstants.{MOST_NOMINATIONS, MOST_VALIDATORS, WHOLE_FRACTION}
use Rattle.voter_lists.specs.declared.refusal.ListRefusal.{ListRefusal}
use Rattle.voter_lists.specs.declared.refusal.ListRefusal.TheVariants.{NoTargets, TooManyTargets, RepeatedTarget, NotValidator, TooManyValidators, BadFraction, NotListed}
use Rattle.voter_lists.specs.declared.standing.Standing.{Standing}
use Rattle.voter_lists.specs.declared.standing.Standing.TheVariants as standing
use Rattle.voter_lists.specs.declared.standing.Role.{Role}
use Rattle.voter_lists.specs.declared.standing.Role.TheVariants as role

abbrev pub RoleList : Type 0
RoleList = List (AccountId × Standing)

-- the standing of an account, if it has a role
abbrev pub standing_of : RoleList → AccountId → Option Standing
standing_of roles who = lookup (is_at (account_cmp who)) roles

abbrev pub role_in : Option Standing → Role
role_in None = role.Nobody
role_in (Some (standing.Nominator targets)) = role.Nominator
role_in (Some (standing.Validator commission)) = role.Validator commission

abbrev pub targets_in : Option Standing → List AccountId
targets_in None = []
targets_in (Some (standing.Nominator targets)) = targets
targets_in (Some (standing.Validator commission)) = []

abbrev pub role_of : RoleList → AccountId → Role
role_of roles who = role_in (standing_of roles who)

-- whom an account nominates
abbrev pub nominated_by : RoleList → AccountId → List AccountId
nominated_by roles who = targets_in (standing_of roles who)

abbrev pub is_validator_standing : Standing → Bool
is_validator_standing (standing.Nominator targets) = false
is_validator_standing (standing.Validator commission) = true

abbrev pub is_validator_in : Option Standing → Bool
is_validator_in None = false
is_validator_in (Some standing) = is_validator_standing standing

abbrev pub is_validator : RoleList → AccountId → Bool
is_validator roles who = is_validator_in (standing_of roles who)

-- the validators, by rising account
abbrev pub validators_of : RoleList → List AccountId
validators_of [] = []
validators_of (row ∷ rows) = if is_validator_standing row.1 then row.0 ∷ validators_of rows
    else validators_of rows

-- an account takes a standing in place of any other that it had
abbrev pub with_standing : RoleList → AccountId → Standing → RoleList
with_standing roles who standing = insert_entry account_cmp roles who standing

-- an account has no role any more
abbrev pub without_role : RoleList → AccountId → RoleList
without_role roles who = remove_entry (is_at (account_cmp who)) roles

-- the standing of each other account is as it was
abbrev pub KeepsOthers : RoleList → RoleList → AccountId → Type 0
KeepsOthers old new who = (other : AccountId) → other ≢ who → standing_of new other ≡ standing_of old other

-- some account stands twice
abbrev pub has_repeated_account : List AccountId → Bool
has_repeated_account [] = false
has_repeated_account (account ∷ accounts) = list_any (λ other. same_account other account) accounts
    || has_repeated_account accounts

-- the account is no validator, or it is the nominator
abbrev pub is_no_target : RoleList → AccountId → AccountId → Bool
is_no_target roles who target = not (is_validator roles target) || same_account target who

abbrev pub nominate_refusal : RoleList → AccountId → List AccountId → Option ListRefusal
nominate_refusal roles who targets =
    if nat_eq (length targets) 0 then Some NoTargets
    else if nat_lt MOST_NOMINATIONS (length targets) then Some TooManyTargets
    else if has_repeated_account targets then Some RepeatedTarget
    else if list_any (λ target. is_no_target roles who target) targets then Some NotValidator
    else None

abbrev pub nominated : RoleList → AccountId → List AccountId → RoleList
nominated roles who targets = with_standing roles who (standing.Nominator targets)

-- a newcomer among validators of the full number is refused
abbrev pub validate_refusal : RoleList → AccountId → ℕ → Option ListRefusal
validate_refusal roles who commission =
    if nat_lt WHOLE_FRACTION commission then Some BadFraction
    else if not (is_validator roles who) && nat_le MOST_VALIDATORS (length (validators_of roles))
    then Some TooManyValidators
    else None

abbrev pub validating : RoleList → AccountId → ℕ → RoleList
validating roles who commission = with_standing roles who (standing.Validator commission)

abbrev pub chill_refusal : RoleList → AccountId → Option ListRefusal
chill_refusal roles who = if is_none (standing_of roles who) then Some NotListed else None
