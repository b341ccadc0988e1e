-- Members and eras as values, and the eras that are made of them.
use Rattle.std.specs.Prelude.{◌≡◌, ℕ, ◌+◌, ◌<◌, ◌≤◌, min, false, List, [], ◌∷◌, ◌++◌, length, map, replicate, All}
use Rattle.std.specs.List.Sorted.{IsStrictlySortedBy}
use Rattle.std.specs.Map.{keys_of, values_of}
use Rattle.npos_base.specs.declared.account.AccountId.{AccountId}
use Rattle.npos_base.specs.declared.limits.TheConstants.{MOST_PAST_ERAS, WHOLE_FRACTION}
use Rattle.npos_base.specs.Account.{account_cmp, same_account}
use Rattle.era_book.specs.declared.exposure.Backer.{Backer}
use Rattle.era_book.specs.declared.exposure.Exposure.{Exposure}
use Rattle.era_book.specs.declared.record.MemberRecord.{MemberRecord}
use Rattle.era_book.specs.declared.deferred.DeferredSlash.{DeferredSlash}
use Rattle.era_book.specs.declared.deferred.TheConstants.{MOST_SLASHES}
use Rattle.era_book.specs.Exposures.{IsSoundExposure, AreApart}
use Rattle.era_book.specs.Members.{Member, Members}
use Rattle.era_book.specs.Eras.{Eras, members_in, is_unknown, with_members}

-- a member as a value, and the member that a value stands for, with its account
abbrev pub record_of : Member → MemberRecord
record_of member = record {
  exposure = member.exposure;
  points = member.points;
  claimed = member.claimed;
  fraction = member.fraction;
}

abbrev pub member_from : MemberRecord → Member
member_from value = record {
  exposure = value.exposure;
  points = value.points;
  claimed = value.claimed;
  fraction = value.fraction;
}

abbrev pub entry_from : MemberRecord → AccountId × Member
entry_from value = (value.exposure.validator, member_from value)

-- the members of an era as values, by rising account
abbrev pub records_in : Eras → ℕ → List MemberRecord
records_in eras era = map record_of (values_of (members_in eras era))

-- the members that these values stand for
abbrev pub members_from : List MemberRecord → Members
members_from values = map entry_from values

-- a book at an era, in which nobody was ever exposed and no slash waits
abbrev pub bare_at : ℕ → ℕ → Eras
bare_at current next_slash = record {
  current = current;
  kept = replicate (min (current + 1) (MOST_PAST_ERAS + 1)) [];
  queue = [];
  next_slash = next_slash;
}

-- Values that can be the members of an era: by strictly rising account, each with a sound exposure.
pub record AreMembersFor (eras : Eras) (era : ℕ) (values : List MemberRecord) : Type 0 where
  pub known : is_unknown eras era ≡ false
  pub rising : IsStrictlySortedBy account_cmp (keys_of (members_from values))
  pub sound : All (λ value. IsSoundExposure value.exposure) values

-- the era has these members
abbrev pub era_put : ℕ → List MemberRecord → Eras → Eras
era_put era values eras = with_members era (members_from values) eras

-- A slash that can wait behind the others: its number is above theirs and was given, it is not due
-- before them, there is a place for it, and its accounts are different.
pub record CanJoin (slash : DeferredSlash) (eras : Eras) : Type 0 where
  pub above : All (λ other. other.number < slash.number) eras.queue
  pub given : slash.number < eras.next_slash
  pub due : All (λ other. other.due ≤ slash.due) eras.queue
  pub room : length eras.queue < MOST_SLASHES
  pub distinct : AreApart slash.lines

-- the slash waits behind the others
abbrev pub slash_put : DeferredSlash → Eras → Eras
slash_put slash eras = record eras { queue = eras.queue ++ slash ∷ [] }

-- ---- what holds of eras, so that they can be made anew from values

-- no backer but the first is the validator
abbrev pub IsOwnFirst : AccountId → List Backer → Type 0
IsOwnFirst validator [] = Unit {0}
IsOwnFirst validator (first ∷ others) = All (λ backer. same_account backer.who validator ≡ false) others

-- each backer gives something, and the validator's own part stands first where it is there
pub record IsBacked (exposure : Exposure) : Type 0 where
  pub amounts : All (λ backer. 0 < backer.amount) exposure.backers
  pub own : IsOwnFirst exposure.validator exposure.backers

-- a member as it is kept: its account is its validator's, and its fraction at most the whole
pub record IsWhole (entry : AccountId × Member) : Type 0 where
  pub account : entry.0 ≡ entry.1.exposure.validator
  pub backed : IsBacked entry.1.exposure
  pub fraction : entry.1.fraction ≤ WHOLE_FRACTION

-- members by rising account, each whole
pub record AreWhole (members : Members) : Type 0 where
  pub rising : IsStrictlySortedBy account_cmp (keys_of members)
  pub each : All IsWhole members

-- in every era the members are whole, and in era 0 there is none
pub record AreEras (eras : Eras) : Type 0 where
  pub whole : (era : ℕ) → AreWhole (members_in eras era)
  pub first : members_in eras 0 ≡ []

-- the slashes that wait have a number from 1 on, are due in eras to come, and take something from
-- each account
pub record AreAhead (eras : Eras) : Type 0 where
  pub numbers : All (λ slash. 1 ≤ slash.number) eras.queue
  pub dues : All (λ slash. eras.current < slash.due) eras.queue
  pub amounts : All (λ slash. All (λ line. 0 < line.amount) slash.lines) eras.queue
