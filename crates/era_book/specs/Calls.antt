-- When a call on the era book is refused, and what it does where it is not.
use Rattle.std.specs.Prelude.{◌≡◌, ℕ, ◌<◌, true, false, ◌||◌, nat_eq, nat_lt, nat_le, is_some, if◌then◌else◌, List, [], fold, Option, Some, None, IsSomeAnd}
use Rattle.std.specs.List.{list_all}
use Rattle.npos_base.specs.declared.account.AccountId.{AccountId}
use Rattle.npos_base.specs.declared.limits.TheConstants.{WHOLE_FRACTION}
use Rattle.era_book.specs.declared.exposure.Backer.{Backer}
use Rattle.era_book.specs.declared.payout.Payout.{Payout}
use Rattle.era_book.specs.declared.refusal.EraRefusal.{EraRefusal}
use Rattle.era_book.specs.declared.refusal.EraRefusal.TheVariants.{BadFraction, UnknownEra, EraNotOver, NotExposed, AlreadyClaimed, NotGreater, NoPoints}
use Rattle.era_book.specs.Payouts.{part, payout_of}
use Rattle.era_book.specs.Slashes.{slash_lines}
use Rattle.era_book.specs.Members.{Member, Members, total_points, with_points}
use Rattle.era_book.specs.Eras.{Eras, is_unknown, members_in, member_in, with_members, with_member_in}

-- points go to members of the current era alone
abbrev pub points_refusal : Eras → List (AccountId × ℕ) → Option EraRefusal
points_refusal eras items =
    if list_all (λ item. is_some (member_in eras eras.current item.0)) items then None else Some NotExposed

-- each item is added, in order
abbrev pub pointed : List (AccountId × ℕ) → Eras → Eras
pointed items eras =
    with_members eras.current (fold with_points (members_in eras eras.current) items) eras

abbrev pub claim_refusal : Option Member → Option EraRefusal
claim_refusal None = Some NotExposed
claim_refusal (Some member) =
    if member.claimed then Some AlreadyClaimed
    else if nat_eq member.points 0 then Some NoPoints
    else None

abbrev pub payout_refusal : Eras → ℕ → AccountId → Option EraRefusal
payout_refusal eras era validator =
    if is_unknown eras era then Some UnknownEra
    else if nat_eq era eras.current then Some EraNotOver
    else claim_refusal (member_in eras era validator)

-- a member's part of the reward of its era, by its points
abbrev pub earned : Members → ℕ → Member → ℕ
earned members reward member = part reward member.points (total_points members)

-- what is paid to a member; no member is paid nothing
abbrev pub paid_to : Members → ℕ → Option Member → Payout
paid_to members reward None = record { lines = []; total = 0 }
paid_to members reward (Some member) =
    payout_of member.exposure (earned members reward member)

-- what a claim pays for a validator and an era with this reward
abbrev pub payout_in : Eras → ℕ → AccountId → ℕ → Payout
payout_in eras era validator reward =
    paid_to (members_in eras era) reward (member_in eras era validator)

abbrev pub claiming : Member → Member
claiming member = record member { claimed = true }

-- the validator's part of the era is claimed
abbrev pub paid : ℕ → AccountId → Eras → Eras
paid era validator eras = with_member_in era validator claiming eras

-- a claim can be marked for a member that is not claimed yet
abbrev pub IsUnclaimed : Option Member → Type 0
IsUnclaimed member = IsSomeAnd member (λ member. member.claimed ≡ false)

abbrev pub fraction_refusal : ℕ → Option Member → Option EraRefusal
fraction_refusal fraction None = Some NotExposed
fraction_refusal fraction (Some member) =
    if nat_le fraction member.fraction then Some NotGreater else None

abbrev pub slash_refusal : Eras → ℕ → AccountId → ℕ → Option EraRefusal
slash_refusal eras era validator fraction =
    if nat_eq fraction 0 || nat_lt WHOLE_FRACTION fraction then Some BadFraction
    else if is_unknown eras era then Some UnknownEra
    else fraction_refusal fraction (member_in eras era validator)

-- what is due behind a member; nothing is due where there is none
abbrev pub due_behind : ℕ → Option Member → List Backer
due_behind fraction None = []
due_behind fraction (Some member) =
    slash_lines member.exposure.backers member.fraction fraction

-- what a report of this fraction makes due
abbrev pub slash_in : Eras → ℕ → AccountId → ℕ → List Backer
slash_in eras era validator fraction = due_behind fraction (member_in eras era validator)

abbrev pub keeping : ℕ → Member → Member
keeping fraction member = record member { fraction = fraction }

-- the fraction is kept for the validator and the era
abbrev pub reported : ℕ → AccountId → ℕ → Eras → Eras
reported era validator fraction eras = with_member_in era validator (keeping fraction) eras

-- a fraction can be kept for a member whose kept fraction is smaller
abbrev pub IsBelow : ℕ → Option Member → Type 0
IsBelow fraction member = IsSomeAnd member (λ member. member.fraction < fraction)
