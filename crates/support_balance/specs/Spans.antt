-- Where the edges of voters stand, and voters whose turns change nothing.
use Rattle.std.specs.Prelude.{◌≡◌, ℕ, ◌<◌, ◌≤◌, ◌⊎◌, List, length, All, slice_index_or}
use Rattle.std.specs.List.{AllPairs}
use Rattle.npos_base.specs.declared.figures.Edge.{Edge}
use Rattle.election_snapshot.specs.Snapshot.{Snapshot, stake_of}
use Rattle.weight_book.specs.Weights.{edges_from, amount_sum}
use Rattle.support_balance.specs.declared.spans.Span.{Span}

-- the voter has edges, and they stand there
pub record IsSpan (edges : List Edge) (span : Span) : Type 0 where
  pub some : span.start < span.end
  pub within : span.end ≤ length edges
  pub before : (k : ℕ) (d : Edge) → k < span.start → (slice_index_or edges k d).voter < span.voter
  pub own : (k : ℕ) (d : Edge) → span.start ≤ k → k < span.end
      → (slice_index_or edges k d).voter ≡ span.voter
  pub behind : (k : ℕ) (d : Edge) → span.end ≤ k → k < length edges
      → span.voter < (slice_index_or edges k d).voter

abbrev pub HasSpan : List Span → ℕ → Type 0
HasSpan spans voter = (k : ℕ) × (k < length spans)
    × ((d : Span) → (slice_index_or spans k d).voter ≡ voter)

-- no edge, or a single one that is given the whole stake
pub record IsIdle (stake : ℕ) (row : List Edge) : Type 0 where
  pub few : length row ≤ 1
  pub whole : 1 ≤ length row → amount_sum row ≡ stake

-- spans by rising voter; of the first voters, those that have none are idle
pub record AreSpans (snapshot : Snapshot) (voters : ℕ) (edges : List Edge) (spans : List Span) : Type 0 where
  pub rising : AllPairs (λ one other. one.voter < other.voter) spans
  pub in_range : All (λ span. span.voter < voters) spans
  pub sound : All (IsSpan edges) spans
  pub others : (voter : ℕ) → voter < voters
      → HasSpan spans voter ⊎ IsIdle (stake_of snapshot voter) (edges_from edges voter)
