-- Lists in one, each in a room of its own.
use Rattle.std.specs.Prelude.{◌≡◌, ℕ, ◌+◌, ◌^◌, ◌<◌, ◌≤◌, List, [], ◌∷◌, length, slice_range}
use Rattle.election_snapshot.specs.Ballots.{cut_at}
use Rattle.seat_race.specs.Tables.{says}

-- what lies from each start to the next
abbrev pub parted : List ℕ → List ℕ → List (List ℕ)
parted items [] = []
parted items (start ∷ starts) = cut_at items start starts

-- no part ends before it starts, or behind the items
abbrev pub ArePartings : List ℕ → List ℕ → Type 0
ArePartings items starts = (part : ℕ) → part + 1 < length starts
    → (says starts part ≤ says starts (part + 1)) × (says starts (part + 1) ≤ length items)

-- what a room holds so far: what lies from its start to where the next item goes
abbrev pub held : List ℕ → List ℕ → List ℕ → ℕ → List ℕ
held items starts nexts room = slice_range items (says starts room) (says nexts room)

-- so many rooms lie one behind the other within the items, and each is filled from its start
pub record AreRooms (items starts nexts : List ℕ) : Type 0 where
  pub starts_are : length starts ≡ length nexts + 1
  pub rise : (one other : ℕ) → one ≤ other → other ≤ length nexts → says starts one ≤ says starts other
  pub within : says starts (length nexts) ≤ length items
  pub small : says starts (length nexts) < 2 ^ 32
  pub begun : (room : ℕ) → room < length nexts → says starts room ≤ says nexts room
  pub ended : (room : ℕ) → room < length nexts → says nexts room ≤ says starts (room + 1)
