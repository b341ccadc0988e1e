-- Eras in the course of a history: what holds of them, and what was paid and made due before.
use Rattle.std.specs.Prelude.{◌≡◌, ℕ, ◌+◌, ◌-◌, ◌≤◌, false, nat_le, if◌then◌else◌, List, [], sum_by, slice_get, unwrap_or, All}
use Rattle.std.specs.Map.{values_of}
use Rattle.npos_base.specs.declared.account.AccountId.{AccountId}
use Rattle.npos_base.specs.declared.limits.TheConstants.{WHOLE_FRACTION}
use Rattle.npos_base.specs.Account.{same_account}
use Rattle.era_book.specs.declared.exposure.Backer.{Backer}
use Rattle.era_book.specs.Exposures.{amount_for, exposed_for}
use Rattle.era_book.specs.Payouts.{part, payout_of}
use Rattle.era_book.specs.Members.{Member, Members, total_points}
use Rattle.era_book.specs.Eras.{Eras, members_in, AreKept}
use Rattle.era_book.specs.Deferred.{AreQueued}
use Rattle.era_book.specs.Events.{Event, begun}

-- kept fractions are at most the whole, and nothing is claimed before the era is over
pub record IsFine (era current : ℕ) (member : Member) : Type 0 where
  pub fraction : member.fraction ≤ WHOLE_FRACTION
  pub unclaimed : current ≤ era → member.claimed ≡ false

abbrev pub AreFine : ℕ → Eras → Type 0
AreFine era eras = All (IsFine era eras.current) (values_of (members_in eras era))

-- what holds of eras whatever happened to them
pub record AreInOrder (eras : Eras) : Type 0 where
  pub kept : AreKept eras
  pub fine : (era : ℕ) → AreFine era eras
  pub queued : AreQueued eras

-- what a member was paid of the reward of an era with so many points
abbrev pub pay_of : ℕ → ℕ → Member → ℕ
pay_of reward points member =
    if member.claimed then (payout_of member.exposure (part reward member.points points)).total else 0

abbrev pub all_pay : ℕ → Members → ℕ
all_pay reward members = sum_by (pay_of reward (total_points members)) (values_of members)

-- what was paid of the reward of an era
abbrev pub paid_before : ℕ → ℕ → Eras → ℕ
paid_before era reward eras = all_pay reward (members_in eras era)

abbrev pub part_for : AccountId → ℕ → Backer → ℕ
part_for who fraction backer =
    if same_account backer.who who then part backer.amount fraction WHOLE_FRACTION else 0

-- what the kept fraction of a member made due from an account
abbrev pub due_from : AccountId → Member → ℕ
due_from who member = sum_by (part_for who member.fraction) member.exposure.backers

abbrev pub all_due : AccountId → Members → ℕ
all_due who members = sum_by (due_from who) (values_of members)

-- what an era made due from an account
abbrev pub due_before : ℕ → AccountId → Eras → ℕ
due_before era who eras = all_due who (members_in eras era)

-- what the exposure of a member holds for an account
abbrev pub held_for : AccountId → Member → ℕ
held_for who member = amount_for who member.exposure.backers

abbrev pub all_held : AccountId → Members → ℕ
all_held who members = sum_by (held_for who) (values_of members)

-- what the exposures of an era hold for an account: of an era that has begun as its members are kept,
-- of a later one as it begins in the history
abbrev pub held_in : ℕ → AccountId → List Event → Eras → ℕ
held_in era who events eras =
    if nat_le era eras.current then all_held who (members_in eras era)
    else exposed_for who (unwrap_or (slice_get (begun events) (era - (eras.current + 1))) [])
