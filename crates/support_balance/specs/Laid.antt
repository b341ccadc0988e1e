-- Edges as a balancing keeps them: one along each nomination of a member, in order, be its amount 0.
use Rattle.std.specs.Prelude.{◌≡◌, ℕ, ◌^◌, ◌<◌, ◌≤◌, List, length, map, All}
use Rattle.std.specs.List.{AllPairs}
use Rattle.npos_base.specs.declared.figures.Edge.{Edge}
use Rattle.election_snapshot.specs.Snapshot.{Snapshot, has}
use Rattle.weight_book.specs.Weights.{edges_from, support}
use Rattle.support_balance.specs.Turns.{backs}
use Rattle.support_balance.specs.Rounds.{IsBefore}
use Rattle.support_balance.specs.Rows.{at}

abbrev pub targets_of : List Edge → List ℕ
targets_of edges = map (λ edge. edge.target) edges

-- each voter has an edge to each member that it nominates, and to no one else
abbrev pub Covers : Snapshot → List ℕ → List Edge → Type 0
Covers snapshot committee edges = (voter target : ℕ) → voter < length snapshot.voters
    → has (targets_of (edges_from edges voter)) target ≡ backs snapshot committee voter target

-- edges in order, with the table of their supports
pub record AreKept (supports : List ℕ) (edges : List Edge) : Type 0 where
  pub rising : AllPairs IsBefore edges
  pub few : length edges ≤ 2 ^ 20
  pub small : All (λ edge. edge.amount < 2 ^ 64) edges
  pub in_range : All (λ edge. edge.target < length supports) edges
  pub table : (target : ℕ) → at supports target ≡ support edges target
