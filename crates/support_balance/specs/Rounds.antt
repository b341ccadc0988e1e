-- Rounds of turns, one at each voter in order.
use Rattle.std.specs.Prelude.{◌≡◌, ℕ, zero, suc, ◌+◌, ◌<◌, ◌≤◌, ◌⊎◌, List, length, All}
use Rattle.std.specs.List.{AllPairs}
use Rattle.npos_base.specs.declared.figures.Edge.{Edge}
use Rattle.election_snapshot.specs.Snapshot.{Snapshot}
use Rattle.support_balance.specs.Turns.{given, IsTurn}

-- each voter gives each target the same
abbrev pub GiveSame : List Edge → List Edge → Type 0
GiveSame old new = (voter target : ℕ) → given new voter target ≡ given old voter target

-- turns at so many voters, one after the other from the first
abbrev pub AreTurns : Snapshot → List ℕ → ℕ → List Edge → List Edge → Type 0
AreTurns snapshot committee zero old new = GiveSame old new
AreTurns snapshot committee (suc voter) old new =
    (before : List Edge) × AreTurns snapshot committee voter old before
    × IsTurn snapshot committee voter before new

abbrev pub IsRound : Snapshot → List ℕ → List Edge → List Edge → Type 0
IsRound snapshot committee old new = AreTurns snapshot committee (length snapshot.voters) old new

-- so many rounds, each of which changes an amount
abbrev pub AreRounds : Snapshot → List ℕ → ℕ → List Edge → List Edge → Type 0
AreRounds snapshot committee zero old new = GiveSame old new
AreRounds snapshot committee (suc made) old new =
    (before : List Edge) × AreRounds snapshot committee made old before
    × IsRound snapshot committee before new
    × (GiveSame before new → ⊥)

-- a last round that changes nothing
abbrev pub IsSettled : Snapshot → List ℕ → ℕ → List Edge → List Edge → Type 0
IsSettled snapshot committee made old new =
    (earlier : ℕ) × (before : List Edge) × (made ≡ earlier + 1)
    × AreRounds snapshot committee earlier old before
    × IsRound snapshot committee before new × GiveSame before new

-- rounds until one changes nothing or the asked number is made
pub record IsBalanced (snapshot : Snapshot) (committee : List ℕ) (asked made : ℕ)
    (old new : List Edge) : Type 0 where
  pub after : List Edge
  pub no_more : made ≤ asked
  pub rounds : (AreRounds snapshot committee made old after × (made ≡ asked))
      ⊎ IsSettled snapshot committee made old after
  pub same : GiveSame after new

-- an edge stands before the other by rising voter, then rising target
abbrev pub IsBefore : Edge → Edge → Type 0
IsBefore one other = (one.voter < other.voter) ⊎ ((one.voter ≡ other.voter) × (one.target < other.target))

pub record AreListed (edges : List Edge) : Type 0 where
  pub rising : AllPairs IsBefore edges
  pub above : All (λ edge. 0 < edge.amount) edges
