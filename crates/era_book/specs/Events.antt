-- Histories of an era book: what happens to it, one after the other, and what that gives in all.
use Rattle.std.specs.Prelude.{◌≡◌, ℕ, ◌+◌, nat_eq, if◌then◌else◌, List, [], ◌∷◌, sum_by, slice_get, unwrap_or, None}
use Rattle.std.specs.Option.{option_map_or}
use Rattle.npos_base.specs.declared.account.AccountId.{AccountId}
use Rattle.era_book.specs.declared.deferred.DeferredSlash.{DeferredSlash}
use Rattle.era_book.specs.declared.exposure.Backer.{Backer}
use Rattle.era_book.specs.declared.exposure.Exposure.{Exposure}
use Rattle.era_book.specs.Exposures.{amount_for, AreSound}
use Rattle.era_book.specs.Eras.{Eras, started}
use Rattle.era_book.specs.Calls.{points_refusal, pointed, payout_refusal, payout_in, paid, slash_refusal, slash_in, reported}
use Rattle.era_book.specs.Deferred.{queue_refusal, queueing, IsQueueable, cancel_refusal, cancelling, next_due, without_next_due}

-- an era begins; points are given; an era is paid to a validator; a fraction is reported; a slash is
-- queued for an era, or cancelled by its number; the slash that is due next is taken, if there is one
pub data Event : Type 0 where
  Started : List Exposure → Event
  Pointed : List (AccountId × ℕ) → Event
  Paid : ℕ → AccountId → Event
  Reported : ℕ → AccountId → ℕ → Event
  Queued : ℕ → List Backer → Event
  Cancelled : ℕ → Event
  Taken : Event

-- the call of the event is not refused
abbrev pub IsAccepted : Event → Eras → Type 0
IsAccepted (Started exposures) eras = AreSound exposures
IsAccepted (Pointed items) eras = points_refusal eras items ≡ None
IsAccepted (Paid era validator) eras = payout_refusal eras era validator ≡ None
IsAccepted (Reported era validator fraction) eras = slash_refusal eras era validator fraction ≡ None
IsAccepted (Queued due lines) eras = (queue_refusal eras ≡ None) × IsQueueable due lines eras
IsAccepted (Cancelled number) eras = cancel_refusal number eras ≡ None
IsAccepted Taken eras = Unit {0}

abbrev pub after : Event → Eras → Eras
after (Started exposures) eras = started exposures eras
after (Pointed items) eras = pointed items eras
after (Paid era validator) eras = paid era validator eras
after (Reported era validator fraction) eras = reported era validator fraction eras
after (Queued due lines) eras = queueing due lines eras
after (Cancelled number) eras = cancelling number eras
after Taken eras = without_next_due eras

-- each event is accepted by the eras as they are then
abbrev pub AreAccepted : List Event → Eras → Type 0
AreAccepted [] eras = Unit {0}
AreAccepted (event ∷ more) eras = IsAccepted event eras × AreAccepted more (after event eras)

abbrev pub after_all : List Event → Eras → Eras
after_all [] eras = eras
after_all (event ∷ more) eras = after_all more (after event eras)

-- what the events give together, each by the eras as they are then
abbrev pub given_by : (Event → Eras → ℕ) → List Event → Eras → ℕ
given_by gives [] eras = 0
given_by gives (event ∷ more) eras = gives event eras + given_by gives more (after event eras)

-- what an event pays of the reward of one era
abbrev pub pays : ℕ → ℕ → Event → Eras → ℕ
pays era reward (Paid other validator) eras =
    if nat_eq other era then (payout_in eras other validator reward).total else 0
pays era reward event eras = 0

-- what an event makes due from one account for one era
abbrev pub makes_due : ℕ → AccountId → Event → Eras → ℕ
makes_due era who (Reported other validator fraction) eras =
    if nat_eq other era then amount_for who (slash_in eras other validator fraction) else 0
makes_due era who event eras = 0

-- what the slashes that wait hold for one account
abbrev pub waiting_for : AccountId → List DeferredSlash → ℕ
waiting_for who slashes = sum_by (λ slash. amount_for who slash.lines) slashes

-- what an event queues for one account
abbrev pub queues : AccountId → Event → Eras → ℕ
queues who (Queued due lines) eras = amount_for who lines
queues who event eras = 0

-- what the slash that an event takes out holds for one account
abbrev pub takes : AccountId → Event → Eras → ℕ
takes who Taken eras = option_map_or (λ slash. amount_for who slash.lines) (next_due eras) 0
takes who event eras = 0

-- the exposures of the eras that begin, in order
abbrev pub begun : List Event → List (List Exposure)
begun [] = []
begun (Started exposures ∷ more) = exposures ∷ begun more
begun (event ∷ more) = begun more

-- the exposures of an era in a history that starts with era 0, which has none
abbrev pub exposures_in : ℕ → List Event → List Exposure
exposures_in era events = unwrap_or (slice_get ([] ∷ begun events) era) []
