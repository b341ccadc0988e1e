-- What is noted at the place of an account: what it does, and whom it names by their places.
use Rattle.std.specs.Prelude.{◌≡◌, ◌<◌, ℕ, Bool, true, false, List, [], length, All, filter_map, slice_get, Option, Some, None}
use Rattle.npos_base.specs.declared.account.AccountId.{AccountId}
use Rattle.voter_lists.specs.declared.row.Kind.{Kind}
use Rattle.voter_lists.specs.declared.row.Kind.TheVariants as kind
use Rattle.voter_lists.specs.declared.standing.Standing.{Standing}
use Rattle.voter_lists.specs.declared.standing.Standing.TheVariants as standing
use Rattle.voter_lists.specs.declared.standing.Role.{Role}
use Rattle.voter_lists.specs.declared.standing.Role.TheVariants as role

-- nothing, of an account without a role; a validator's commission; or the places of a nominator's targets
pub data Noted : Type 0 where
  Idle : Noted
  Validating : ℕ → Noted
  Naming : List ℕ → Noted

-- what a row notes
abbrev pub noted_in : Kind → Noted
noted_in kind.Nobody = Idle
noted_in (kind.Validator commission) = Validating commission
noted_in (kind.Near places) = Naming places
noted_in (kind.Far places) = Naming places

abbrev pub role_noted : Noted → Role
role_noted Idle = role.Nobody
role_noted (Validating commission) = role.Validator commission
role_noted (Naming places) = role.Nominator

-- the role is that of a validator
abbrev pub validates : Role → Bool
validates role.Nobody = false
validates role.Nominator = false
validates (role.Validator commission) = true

abbrev pub places_noted : Noted → List ℕ
places_noted Idle = []
places_noted (Validating commission) = []
places_noted (Naming places) = places

-- the accounts at these places
abbrev pub accounts_at : List AccountId → List ℕ → List AccountId
accounts_at accounts places = filter_map (slice_get accounts) places

-- there is an account at each of these places
abbrev pub AreWithin : List AccountId → List ℕ → Type 0
AreWithin accounts places = All (λ place. place < length accounts) places

-- the standing that is noted, where there is one
abbrev pub standing_noted : List AccountId → Noted → Option Standing
standing_noted accounts Idle = None
standing_noted accounts (Validating commission) = Some (standing.Validator commission)
standing_noted accounts (Naming places) = Some (standing.Nominator (accounts_at accounts places))

-- whom it names has a place
abbrev pub IsPlaced : List AccountId → Noted → Type 0
IsPlaced accounts noted = AreWithin accounts (places_noted noted)

-- a nominator of these targets is noted
pub record NotesTargets (accounts : List AccountId) (noted : Noted) (targets : List AccountId)
    : Type 0 where
  pub placed : IsPlaced accounts noted
  pub standing : standing_noted accounts noted ≡ Some (standing.Nominator targets)
