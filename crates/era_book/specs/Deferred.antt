-- Slashes that wait: when a call on them is refused, and what it makes of the eras where it is not.
use Rattle.std.specs.Prelude.{ℕ, ◌+◌, ◌<◌, ◌≤◌, Bool, not, nat_eq, nat_lt, nat_le, if◌then◌else◌, List, [], ◌∷◌, ◌++◌, length, filter, find, Option, Some, None, All, AllPairs}
use Rattle.std.specs.List.{list_any}
use Rattle.era_book.specs.declared.exposure.Backer.{Backer}
use Rattle.era_book.specs.declared.deferred.DeferredSlash.{DeferredSlash}
use Rattle.era_book.specs.declared.deferred.TheConstants.{MOST_SLASHES}
use Rattle.era_book.specs.declared.refusal.EraRefusal.{EraRefusal}
use Rattle.era_book.specs.declared.refusal.EraRefusal.TheVariants.{NoSlash, TooManySlashes}
use Rattle.era_book.specs.Exposures.{AreApart}
use Rattle.era_book.specs.Eras.{Eras}

abbrev pub has_number : ℕ → DeferredSlash → Bool
has_number number slash = nat_eq slash.number number

-- the slashes but the one of this number
abbrev pub without : ℕ → List DeferredSlash → List DeferredSlash
without number slashes = filter (λ slash. not (has_number number slash)) slashes

abbrev pub queue_refusal : Eras → Option EraRefusal
queue_refusal eras =
    if nat_lt (length eras.queue) MOST_SLASHES then None else Some TooManySlashes

-- the slash waits behind the others, under the next number
abbrev pub queueing : ℕ → List Backer → Eras → Eras
queueing due lines eras =
    record eras {
      queue = eras.queue ++ record { number = eras.next_slash; due = due; lines = lines } ∷ [];
      next_slash = eras.next_slash + 1;
    }

-- A slash can be queued for an era that has not begun, and before which no other slash is due. Its
-- accounts are different.
pub record IsQueueable (due : ℕ) (lines : List Backer) (eras : Eras) : Type 0 where
  pub ahead : eras.current < due
  pub last : All (λ slash. slash.due ≤ due) eras.queue
  pub distinct : AreApart lines

abbrev pub cancel_refusal : ℕ → Eras → Option EraRefusal
cancel_refusal number eras =
    if list_any (has_number number) eras.queue then None else Some NoSlash

-- the slash waits no more; the kept fraction stays
abbrev pub cancelling : ℕ → Eras → Eras
cancelling number eras = record eras { queue = without number eras.queue }

-- of the slashes that are due now, the one of least number
abbrev pub next_due : Eras → Option DeferredSlash
next_due eras = find (λ slash. nat_le slash.due eras.current) eras.queue

abbrev pub without_slash : Option DeferredSlash → List DeferredSlash → List DeferredSlash
without_slash None slashes = slashes
without_slash (Some slash) slashes = without slash.number slashes

-- the slash that is due next waits no more
abbrev pub without_next_due : Eras → Eras
without_next_due eras = record eras { queue = without_slash (next_due eras) eras.queue }

-- Slashes as they wait, with the next number: numbers rise, and the next one is above them; no later
-- slash is due earlier; they are not too many; and each names different accounts.
pub record AreInLine (slashes : List DeferredSlash) (next : ℕ) : Type 0 where
  pub numbers : AllPairs (λ first later. first.number < later.number) slashes
  pub given : All (λ slash. slash.number < next) slashes
  pub dues : AllPairs (λ first later. first.due ≤ later.due) slashes
  pub most : length slashes ≤ MOST_SLASHES
  pub distinct : All (λ slash. AreApart slash.lines) slashes

-- what holds of the slashes that wait in every era book
abbrev pub AreQueued : Eras → Type 0
AreQueued eras = AreInLine eras.queue eras.next_slash
