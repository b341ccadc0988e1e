-- The current era and those before it that are kept.
use Rattle.std.specs.Prelude.{◌≡◌, ◌≢◌, ℕ, ◌+◌, ◌-◌, ◌≤◌, min, Bool, false, ◌||◌, nat_lt, if◌then◌else◌, List, [], ◌∷◌, length, take, slice_get, slice_set, unwrap_or, Option, Some, None, All}
use Rattle.std.specs.Map.{values_of}
use Rattle.npos_base.specs.declared.account.AccountId.{AccountId}
use Rattle.npos_base.specs.declared.limits.TheConstants.{MOST_PAST_ERAS}
use Rattle.era_book.specs.declared.deferred.DeferredSlash.{DeferredSlash}
use Rattle.era_book.specs.declared.exposure.Exposure.{Exposure}
use Rattle.era_book.specs.Exposures.{IsSoundExposure}
use Rattle.era_book.specs.Members.{Member, Members, member_of, newcomer, members_with, with_member}

-- The number of the current era; the members of the current era and of those before it, the latest
-- first; and the slashes that wait, by rising number, with the number of the next one.
pub record Eras : Type 0 where
  pub current : ℕ
  pub kept : List Members
  pub queue : List DeferredSlash
  pub next_slash : ℕ

-- era 0, which has no member; the first slash has number 1
abbrev pub first_era : Eras
first_era = record { current = 0; kept = [] ∷ []; queue = []; next_slash = 1 }

-- the next era begins with these exposures; the current one stays, and the 84 before it, and what
-- waits
abbrev pub started : List Exposure → Eras → Eras
started exposures eras =
    record eras {
      current = eras.current + 1;
      kept = take (MOST_PAST_ERAS + 1) (members_with exposures ∷ eras.kept);
    }

-- the next era begins with these members
abbrev pub begun_with : Members → Eras → Eras
begun_with members eras =
    record eras {
      current = eras.current + 1;
      kept = take (MOST_PAST_ERAS + 1) (members ∷ eras.kept);
    }

-- the era has not begun, or it stands more than 84 before the current one
abbrev pub is_unknown : Eras → ℕ → Bool
is_unknown eras era = nat_lt eras.current era || nat_lt (era + MOST_PAST_ERAS) eras.current

-- the members of an era, if it is known
abbrev pub era_of : Eras → ℕ → Option Members
era_of eras era =
    if is_unknown eras era then None else slice_get eras.kept (eras.current - era)

-- the members of an era; an unknown era has none
abbrev pub members_in : Eras → ℕ → Members
members_in eras era = unwrap_or (era_of eras era) []

-- the member of an era with this account, if it is exposed there
abbrev pub member_in : Eras → ℕ → AccountId → Option Member
member_in eras era who = member_of (members_in eras era) who

-- the eras where the members of one of them become others
abbrev pub with_members : ℕ → Members → Eras → Eras
with_members era members eras =
    record eras { kept = slice_set eras.kept (eras.current - era) members }

-- the eras where one member of one era changes
abbrev pub with_member_in : ℕ → AccountId → (Member → Member) → Eras → Eras
with_member_in era who change eras =
    with_members era (with_member who change (members_in eras era)) eras

-- every member but this one is as it was
abbrev pub OthersStay : ℕ → AccountId → Eras → Eras → Type 0
OthersStay era who old new =
    (other : ℕ) (account : AccountId) → (other ≡ era → account ≢ who) →
    member_in new other account ≡ member_in old other account

-- the members of each era that is still known are as they were
abbrev pub EarlierStay : Eras → Eras → Type 0
EarlierStay old new =
    (era : ℕ) → era ≤ old.current → is_unknown new era ≡ false → members_in new era ≡ members_in old era

-- the exposures are those of the members of an era
abbrev pub HasExposures : Eras → ℕ → List Exposure → Type 0
HasExposures eras era exposures =
    All (λ exposure. member_in eras era exposure.validator ≡ Some (newcomer exposure)) exposures

-- who is not among the exposures is no member
abbrev pub HasNoOther : Eras → ℕ → List Exposure → Type 0
HasNoOther eras era exposures =
    (who : AccountId) → All (λ exposure. exposure.validator ≢ who) exposures →
    member_in eras era who ≡ None

abbrev pub AreMembers : Members → Type 0
AreMembers members = All (λ member. IsSoundExposure member.exposure) (values_of members)

-- what holds of every era book: of 85 eras, or of all where there were fewer, the members are kept,
-- and each has a sound exposure
pub record AreKept (eras : Eras) : Type 0 where
  pub count : length eras.kept ≡ min (eras.current + 1) (MOST_PAST_ERAS + 1)
  pub sound : All AreMembers eras.kept
