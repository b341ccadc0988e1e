-- The members of an era are a list of accounts, each with its exposure and what happened since, by
-- rising account.
use Rattle.std.specs.Prelude.{◌≡◌, ℕ, ◌+◌, ◌-◌, ◌^◌, ◌<◌, min, Bool, false, List, [], fold, sum_by, Option, Some, None, All}
use Rattle.std.specs.Map.{lookup, set_value, values_of}
use Rattle.std.specs.BTreeMap.{is_at, insert_entry}
use Rattle.npos_base.specs.declared.account.AccountId.{AccountId}
use Rattle.npos_base.specs.Account.{account_cmp}
use Rattle.era_book.specs.declared.exposure.Exposure.{Exposure}

-- one validator in one era: what stands behind it, its points, whether its part of the reward is
-- claimed, and the greatest fraction that was reported, in billionths; 0 at first
pub record Member : Type 0 where
  pub exposure : Exposure
  pub points : ℕ
  pub claimed : Bool
  pub fraction : ℕ

abbrev pub Members : Type 0
Members = List (AccountId × Member)

-- the member with this account, if it is exposed
abbrev pub member_of : Members → AccountId → Option Member
member_of members who = lookup (is_at (account_cmp who)) members

-- a member as its era begins: without points, not claimed, and with the kept fraction 0
abbrev pub newcomer : Exposure → Member
newcomer exposure = record { exposure = exposure; points = 0; claimed = false; fraction = 0 }

abbrev pub with_exposure : Members → Exposure → Members
with_exposure members exposure =
    insert_entry account_cmp members exposure.validator (newcomer exposure)

-- the members of an era that begins with these exposures
abbrev pub members_with : List Exposure → Members
members_with exposures = fold with_exposure [] exposures

-- all points of an era
abbrev pub total_points : Members → ℕ
total_points members = sum_by (λ member. member.points) (values_of members)

abbrev pub put_member : Option Member → AccountId → Members → Members
put_member None who members = members
put_member (Some member) who members = set_value (is_at (account_cmp who)) members member

abbrev pub changed : (Member → Member) → Option Member → Option Member
changed change None = None
changed change (Some member) = Some (change member)

-- the members where one of them changes
abbrev pub with_member : AccountId → (Member → Member) → Members → Members
with_member who change members = put_member (changed change (member_of members who)) who members

-- the points of one member stay at 2^32 - 1 where they would pass it
abbrev pub gaining : ℕ → Member → Member
gaining points member = record member { points = min (member.points + points) (2 ^ 32 - 1) }

abbrev pub with_points : Members → AccountId × ℕ → Members
with_points members item = with_member item.0 (gaining item.1) members

-- all points are counted, and no member has more than it can have
pub record IsCounted (members : Members) (points : ℕ) : Type 0 where
  pub total : points ≡ total_points members
  pub each : All (λ member. member.points < 2 ^ 32) (values_of members)
