-- What a pass over edges and votes stands on.
use Rattle.std.specs.Prelude.{◌≡◌, ℕ, ◌*◌, ◌/◌, ◌^◌, ◌<◌, ◌≤◌, List, length, slice_index_or, All}
use Rattle.std.specs.List.{AllPairs}
use Rattle.npos_base.specs.declared.figures.Edge.{Edge}
use Rattle.election_snapshot.specs.Snapshot.{Snapshot, stake_of}
use Rattle.weight_book.specs.Weights.{support, spent}
use Rattle.weight_book.specs.Passing.{prescore}
use Rattle.support_balance.specs.Rounds.{IsBefore}

-- edges in order with the table of their supports, which spend no more than the stakes
pub record AreSpare (snapshot : Snapshot) (edges : List Edge) (supports : List ℕ) : Type 0 where
  pub rising : AllPairs IsBefore edges
  pub voters : All (λ edge. edge.voter < length snapshot.voters) edges
  pub targets : All (λ edge. edge.target < length supports) edges
  pub sums : (target : ℕ) → slice_index_or supports target 0 ≡ support edges target
  pub within : (voter : ℕ) → voter < length snapshot.voters → spent edges voter ≤ stake_of snapshot voter

-- what part of a support above the price the price is, in units of a 2 ^ 64th
abbrev pub IsRate : ℕ → ℕ → ℕ → Type 0
IsRate price support rate = price < support → rate ≡ price * 2 ^ 64 / support

-- by target, that part of its support
pub record AreRates (price : ℕ) (supports rates : List ℕ) : Type 0 where
  pub count : length rates ≡ length supports
  pub rate : (target : ℕ) → target < length supports
      → IsRate price (slice_index_or supports target 0) (slice_index_or rates target 0)

-- the table tells what the nominators of these targets have left
abbrev pub ArePrescores : ℕ → Snapshot → List Edge → List ℕ → List ℕ → Type 0
ArePrescores price snapshot edges targets table =
    All (λ target. slice_index_or table target 0 ≡ prescore price snapshot edges target) targets
