-- What holds of payouts and slashes, whatever happens to an era book.
use Rattle.std.specs.Prelude.{◌≡◌, ◌≢◌, ℕ, ◌+◌, ◌≤◌, false, List, [], map, All}
use Rattle.std.specs.Map.{values_of}
use Rattle.npos_base.specs.declared.account.AccountId.{AccountId}
use Rattle.npos_base.specs.declared.figures.Edge.{Edge}
use Rattle.era_book.specs.declared.exposure.Exposure.{Exposure}
use Rattle.era_book.specs.Committee.{IsElected, exposure_of}
use Rattle.era_book.specs.Exposures.{IsSoundExposure, exposed_for}
use Rattle.era_book.specs.Payouts.{payout_of}
use Rattle.era_book.specs.Slashes.{due}
use Rattle.era_book.specs.Eras.{Eras, first_era, is_unknown, members_in, AreKept}
use Rattle.era_book.specs.declared.record.MemberRecord.{MemberRecord}
use Rattle.era_book.specs.Members.{Members}
use Rattle.era_book.specs.Records.{record_of, records_in, members_from, era_put, bare_at, IsBacked, AreWhole, AreEras}
use Rattle.era_book.specs.Events.{Event, Started, IsAccepted, after, AreAccepted, after_all, given_by, pays, makes_due, waiting_for, queues, takes, exposures_in}
use Rattle.era_book.specs.Course.{AreInOrder, paid_before, due_before, held_in}

-- a validator and its backers are paid at most what is to be paid to them
abbrev pub PayoutLaw : Type 0
PayoutLaw = (exposure : Exposure) (value : ℕ) → IsSoundExposure exposure →
    (payout_of exposure value).total ≤ value

-- two reports one after the other make due what the greater one alone would
abbrev pub TelescopeLaw : Type 0
TelescopeLaw = (amount kept first second : ℕ) → kept ≤ first → first ≤ second →
    due amount kept first + due amount first second ≡ due amount kept second

-- all payouts of one era together are at most its reward
abbrev pub RewardLaw : Type 0
RewardLaw = (era reward : ℕ) (events : List Event) → AreAccepted events first_era →
    given_by (pays era reward) events first_era ≤ reward

-- all that one era makes due from one account, over all validators and reports, is at most what the
-- exposures of that era hold for it
abbrev pub DueLaw : Type 0
DueLaw = (era : ℕ) (who : AccountId) (events : List Event) → AreAccepted events first_era →
    given_by (makes_due era who) events first_era ≤ exposed_for who (exposures_in era events)

-- era 0 is in order, and so are the eras after any event
abbrev pub InOrderLaw : Type 0
InOrderLaw = AreInOrder first_era
    × ((event : Event) (eras : Eras) → IsAccepted event eras → AreInOrder eras →
    AreInOrder (after event eras))

-- from any eras in order on: what was paid of the reward of one era before, and all its payouts from
-- then on, are together at most the reward
abbrev pub RewardOnLaw : Type 0
RewardOnLaw = (era reward : ℕ) (events : List Event) (eras : Eras) → AreInOrder eras →
    AreAccepted events eras →
    paid_before era reward eras + given_by (pays era reward) events eras ≤ reward

-- from any eras in order on: what one era made due from an account before, and all that it makes due
-- from then on, are together at most what the exposures of that era hold for it
abbrev pub DueOnLaw : Type 0
DueOnLaw = (era : ℕ) (who : AccountId) (events : List Event) (eras : Eras) → AreInOrder eras →
    AreAccepted events eras →
    due_before era who eras + given_by (makes_due era who) events eras ≤ held_in era who events eras

-- from any eras on: what is taken out for one account, and what waits for it then, are together at
-- most what waited before and all that is queued for it; what is cancelled is in neither
abbrev pub WaitingLaw : Type 0
WaitingLaw = (who : AccountId) (events : List Event) (eras : Eras) →
    given_by (takes who) events eras + waiting_for who (after_all events eras).queue
    ≤ waiting_for who eras.queue + given_by (queues who) events eras

-- what a value stands for is told by it, and every member of an era that is put is shown by it as
-- it was put; each other era is as it was
abbrev pub PutLaw : Type 0
PutLaw = (eras : Eras) (era : ℕ) (values : List MemberRecord) → AreKept eras →
    is_unknown eras era ≡ false →
    (records_in (era_put era values eras) era ≡ values)
    × ((other : ℕ) → other ≢ era → members_in (era_put era values eras) other ≡ members_in eras other)

-- whole members are made anew from their values
abbrev pub ValuesLaw : Type 0
ValuesLaw = (members : Members) → AreWhole members →
    members_from (map record_of (values_of members)) ≡ members

-- in a bare book nobody is exposed
abbrev pub BareLaw : Type 0
BareLaw = (current next era : ℕ) → members_in (bare_at current next) era ≡ []

-- eras are told by their number, their members, and what waits
abbrev pub SameErasLaw : Type 0
SameErasLaw = (one other : Eras) → AreKept one → AreKept other → one.current ≡ other.current →
    one.queue ≡ other.queue → one.next_slash ≡ other.next_slash →
    ((era : ℕ) → members_in one era ≡ members_in other era) → one ≡ other

-- where an era begins, its exposures are backed
abbrev pub BringsBacked : Event → Type 0
BringsBacked (Started exposures) = All IsBacked exposures
BringsBacked event = Unit {0}

-- in every era the members are whole from the start on, whatever happens, as long as the exposures
-- with which eras begin are backed
abbrev pub WholeLaw : Type 0
WholeLaw = AreEras first_era
    × ((event : Event) (eras : Eras) → IsAccepted event eras → BringsBacked event → AreKept eras →
    AreEras eras → AreEras (after event eras))

-- the exposures of an elected committee are backed
abbrev pub BackedLaw : Type 0
BackedLaw = (targets voters : List AccountId) (commissions supports : List ℕ) (edges : List Edge)
    (members : List ℕ) → IsElected targets voters commissions supports edges members →
    All IsBacked (map (exposure_of targets commissions supports voters edges) members)
