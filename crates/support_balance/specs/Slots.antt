-- An edge of amount 0 along each nomination, in order, and edges laid along those of members.
use Rattle.std.specs.Prelude.{◌≡◌, ℕ, ◌^◌, ◌<◌, ◌≤◌, ◌+◌, ◌-◌, ◌⊎◌, Bool, true, false, List, [], ◌∷◌, ◌++◌, length, take, drop, filter, All, slice_index_or}
use Rattle.std.specs.List.{AllPairs, list_any}
use Rattle.npos_base.specs.declared.figures.Edge.{Edge}
use Rattle.npos_base.specs.Edge.{same_pair}
use Rattle.election_snapshot.specs.Snapshot.{Snapshot, has, nominates}
use Rattle.weight_book.specs.Weights.{edges_from, support}
use Rattle.support_balance.specs.Rounds.{IsBefore, GiveSame}
use Rattle.support_balance.specs.Rows.{AreAlike}
use Rattle.support_balance.specs.Laid.{targets_of}
use Rattle.support_balance.specs.declared.laying.Joining.{Joining}

-- the slots of the first voters
pub record AreSlots (snapshot : Snapshot) (voters : ℕ) (slots : List Edge) : Type 0 where
  pub rising : AllPairs IsBefore slots
  pub voters_in_range : All (λ slot. slot.voter < voters) slots
  pub targets_in_range : All (λ slot. slot.target < length snapshot.targets) slots
  pub pairs : (voter target : ℕ) → voter < voters
      → has (targets_of (edges_from slots voter)) target ≡ nominates snapshot voter target

-- the slots whose targets are marked
abbrev pub marked : (ℕ → Bool) → List Edge → List Edge
marked marks slots = filter (λ slot. marks slot.target) slots

-- some edge of the list leads from the same voter to the same target
abbrev pub has_pair : List Edge → Edge → Bool
has_pair edges edge = list_any (λ other. same_pair other edge) edges

-- the edges, laid along the marked slots
pub record AreLaid (marks : ℕ → Bool) (slots edges laid : List Edge) : Type 0 where
  pub alike : AreAlike (marked marks slots) laid
  pub same : GiveSame edges laid
  pub sums : (target : ℕ) → support laid target ≡ support edges target
  pub small : All (λ edge. edge.amount < 2 ^ 64) laid

abbrev pub slot_of : ℕ → ℕ → Edge
slot_of voter target = record { voter = voter; target = target; amount = 0 }

abbrev pub IsOldOrNew : Snapshot → ℕ → List Edge → Edge → Type 0
IsOldOrNew snapshot target edges edge = (has_pair edges edge ≡ true)
    ⊎ ((edge.voter < length snapshot.voters) × (nominates snapshot edge.voter target ≡ true)
    × (edge.target ≡ target))

-- the edges, with one of amount 0 from each voter that nominates the target
pub record IsJoined (snapshot : Snapshot) (target : ℕ) (edges joined : List Edge) : Type 0 where
  pub rising : AllPairs IsBefore joined
  pub all : All (λ edge. has_pair joined edge ≡ true) edges
  pub new : (voter : ℕ) → voter < length snapshot.voters → nominates snapshot voter target ≡ true
      → has_pair joined (slot_of voter target) ≡ true
  pub only : All (IsOldOrNew snapshot target edges) joined
  pub same : GiveSame edges joined
  pub small : All (λ edge. edge.amount < 2 ^ 64) joined

-- notes by rising place, each within the edges
pub record AreNotes (edges : List Edge) (notes : List Joining) : Type 0 where
  pub rising : AllPairs (λ one other. one.place ≤ other.place) notes
  pub within : All (λ note. note.place ≤ length edges) notes

-- the edges from a place on, with a slot of the target at the place of each note
abbrev pub spread : ℕ → List Joining → ℕ → List Edge → List Edge
spread target [] done edges = drop done edges
spread target (note ∷ notes) done edges = take (note.place - done) (drop done edges)
    ++ slot_of note.voter target ∷ spread target notes note.place edges

-- The edge at the place leads along the slot and its amount is taken, or there is none that does.
pub record IsTaken (slot : Edge) (edges : List Edge) (at after amount : ℕ) : Type 0 where
  pub inside : at < length edges
  pub moved : after ≡ at + 1
  pub voter : (d : Edge) → (slice_index_or edges at d).voter ≡ slot.voter
  pub target : (d : Edge) → (slice_index_or edges at d).target ≡ slot.target
  pub amount_is : (d : Edge) → (slice_index_or edges at d).amount ≡ amount

pub record IsPassed (slot : Edge) (edges : List Edge) (at after amount : ℕ) : Type 0 where
  pub stays : after ≡ at
  pub none : amount ≡ 0
  pub other : (d : Edge) → at < length edges → same_pair (slice_index_or edges at d) slot ≡ false
