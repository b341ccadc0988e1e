-- What is wrong with a role.
use Rattle.std.specs.Prelude.{ℕ, ◌-◌, ◌^◌, Bool, true, false, not, ◌||◌, ◌&&◌, nat_eq, nat_lt, nat_le, List, length, map, filter, Option, Some, None}
use Rattle.npos_base.specs.declared.account.AccountId.{AccountId}
use Rattle.npos_base.specs.declared.limits.TheConstants.{MOST_NOMINATIONS, MOST_VALIDATORS, WHOLE_FRACTION}
use Rattle.stake_ledger.specs.declared.book_row.BookRow.{BookRow}
use Rattle.state_rules.specs.declared.state.RoleRow.{RoleRow}
use Rattle.state_rules.specs.declared.state.RoleKind.{RoleKind}
use Rattle.state_rules.specs.declared.state.RoleKind.TheVariants.{Nominator, Validator}
use Rattle.state_rules.specs.Lists.{has_bad, last_of, follows}
use Rattle.state_rules.specs.Accounts.{stands_in}
use Rattle.state_rules.specs.Known.{row_of, is_bonded}

abbrev pub is_greatest : Option ℕ → Bool
is_greatest None = false
is_greatest (Some threshold) = nat_eq threshold (2 ^ 64 - 1)

-- no score is in the bag behind the last threshold where that is the greatest number
abbrev pub is_scoreless : List ℕ → ℕ → Bool
is_scoreless thresholds bag = nat_eq bag (length thresholds) && is_greatest (last_of thresholds)

abbrev pub is_validator : RoleKind → Bool
is_validator (Nominator targets) = false
is_validator (Validator commission) = true

abbrev pub validators_in : List RoleRow → ℕ
validators_in roles = length (filter (λ role. is_validator role.role) roles)

-- the accounts are none, too many, not different, or the nominator's own among them
abbrev pub are_bad_targets : AccountId → List AccountId → Bool
are_bad_targets who targets =
    nat_eq (length targets) 0 || nat_lt MOST_NOMINATIONS (length targets)
    || has_bad stands_in targets || stands_in targets who

-- what a role of its kind may not say, where so many validators stand before it
abbrev pub is_bad_kind : AccountId → ℕ → RoleKind → Bool
is_bad_kind who validators (Nominator targets) = are_bad_targets who targets
is_bad_kind who validators (Validator commission) =
    nat_lt WHOLE_FRACTION commission || nat_le MOST_VALIDATORS validators

-- the bag is none of those between the thresholds, or is above the one before
abbrev pub is_bad_bag : List ℕ → List RoleRow → RoleRow → Bool
is_bad_bag thresholds before role =
    nat_lt (length thresholds) role.bag || is_scoreless thresholds role.bag
    || not (follows (λ earlier later. nat_le later.bag earlier.bag) before role)

-- The account isn't bonded or is listed before, the bag is wrong, or the role itself is.
abbrev pub is_bad_role : List ℕ → List BookRow → List RoleRow → RoleRow → Bool
is_bad_role thresholds rows before role =
    not (is_bonded (row_of rows role.who)) || stands_in (map (λ earlier. earlier.who) before) role.who
    || is_bad_bag thresholds before role || is_bad_kind role.who (validators_in before) role.role
