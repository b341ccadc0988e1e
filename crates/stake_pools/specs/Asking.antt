-- Why what a member asks for is refused.
use Rattle.std.specs.Prelude.{ℕ, List, Option, Some, None, is_some, nat_lt, ◌==◌, not, if◌then◌else◌}
use Rattle.std.specs.Option.{option_or}
use Rattle.npos_base.specs.declared.account.AccountId.{AccountId}
use Rattle.stake_pools.specs.declared.member.Member.{Member}
use Rattle.stake_pools.specs.declared.refusal.PoolRefusal.{PoolRefusal}
use Rattle.stake_pools.specs.declared.refusal.PoolRefusal.TheVariants.{NotMember, LowPoints, NotDue, TooManyLeaves, NothingDue}
use Rattle.stake_pools.specs.Leaves.{has_due, is_full_for}
use Rattle.stake_pools.specs.Members.{member_of, member_at}

abbrev pub absent_refusal : List (AccountId × Member) → AccountId → Option PoolRefusal
absent_refusal members who = if is_some (member_of members who) then None else Some NotMember

-- why so many points of the member can't leave for this release
abbrev pub points_refusal : ℕ → ℕ → Member → Option PoolRefusal
points_refusal points release member =
    if nat_lt member.staying points then Some LowPoints
    else if is_full_for release member.leaves then Some TooManyLeaves
    else None

-- why so many points of the account can't
abbrev pub parting_refusal : List (AccountId × Member) → AccountId → ℕ → ℕ → Option PoolRefusal
parting_refusal members who points release =
    if not (is_some (member_of members who)) then Some NotMember
    else points_refusal points release (member_at members who)

-- why nothing of the member is paid out in this era
abbrev pub undue_refusal : ℕ → Member → Option PoolRefusal
undue_refusal era member = if has_due era member.leaves then None else Some NotDue

-- why the member has nothing to claim
abbrev pub uncredited_refusal : Member → Option PoolRefusal
uncredited_refusal member = if member.credit == 0 then Some NothingDue else None

-- the refusal of who is no member, and else that of the member
abbrev pub redeem_refusal : List (AccountId × Member) → AccountId → ℕ → Option PoolRefusal
redeem_refusal members who era =
    option_or (absent_refusal members who) (undue_refusal era (member_at members who))

abbrev pub claim_refusal : List (AccountId × Member) → AccountId → Option PoolRefusal
claim_refusal members who =
    option_or (absent_refusal members who) (uncredited_refusal (member_at members who))
