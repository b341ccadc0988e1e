-- The members of a pool, by rising account: the points of each, staying and on their way out, and its credit.
use Rattle.std.specs.Prelude.{ℕ, Bool, ◌+◌, ◌-◌, ◌*◌, ◌/◌, List, [], map, sum_by, Option, unwrap_or, ◌==◌, ◌&&◌, if◌then◌else◌}
use Rattle.std.specs.BTreeMap.{insert_entry, is_at}
use Rattle.std.specs.Map.{values_of, lookup, remove_entry}
use Rattle.npos_base.specs.declared.account.AccountId.{AccountId}
use Rattle.npos_base.specs.Account.{account_cmp}
use Rattle.stake_pools.specs.declared.member.Member.{Member}
use Rattle.stake_pools.specs.Leaves.{leaving, is_empty, with_leave, later_leaves}

-- all points of a member: those that stay and those on their way out
abbrev pub points_of : Member → ℕ
points_of member = member.staying + leaving member.leaves

-- who is no member has nothing
abbrev pub no_member : Member
no_member = record { staying = 0; leaves = []; credit = 0 }

abbrev pub member_of : List (AccountId × Member) → AccountId → Option Member
member_of members who = lookup (is_at (account_cmp who)) members

abbrev pub member_at : List (AccountId × Member) → AccountId → Member
member_at members who = unwrap_or (lookup (is_at (account_cmp who)) members) no_member

-- a sum over all members
abbrev pub total : (Member → ℕ) → List (AccountId × Member) → ℕ
total part members = sum_by part (values_of members)

abbrev pub all_points : List (AccountId × Member) → ℕ
all_points members = total points_of members

abbrev pub all_staying : List (AccountId × Member) → ℕ
all_staying members = total (λ member. member.staying) members

abbrev pub all_credits : List (AccountId × Member) → ℕ
all_credits members = total (λ member. member.credit) members

-- a member without points, leaves and credit is none from then on
abbrev pub has_nothing : Member → Bool
has_nothing member = (member.staying == 0) && is_empty member.leaves && (member.credit == 0)

abbrev pub with_member : AccountId → Member → List (AccountId × Member) → List (AccountId × Member)
with_member who member members =
    if has_nothing member then remove_entry (is_at (account_cmp who)) members
    else insert_entry account_cmp members who member

-- the members with one of them changed
abbrev pub changed : AccountId → (Member → Member) → List (AccountId × Member) → List (AccountId × Member)
changed who change members = with_member who (change (member_at members who)) members

abbrev pub joined : ℕ → Member → Member
joined points member = record member { staying = member.staying + points }

abbrev pub left : ℕ → ℕ → Member → Member
left points release member = record member {
  staying = member.staying - points;
  leaves = with_leave points release member.leaves;
}

abbrev pub redeemed : ℕ → Member → Member
redeemed era member = record member { leaves = later_leaves era member.leaves }

-- of a reward each member gets the part that its staying points are of all of them, rounded down
abbrev pub rewarded : ℕ → ℕ → Member → Member
rewarded value all member = record member { credit = member.credit + value * member.staying / all }

abbrev pub all_rewarded : ℕ → List (AccountId × Member) → List (AccountId × Member)
all_rewarded value members = map (λ entry. (entry.0, rewarded value (all_staying members) entry.1)) members

abbrev pub claimed : Member → Member
claimed member = record member { credit = 0 }
