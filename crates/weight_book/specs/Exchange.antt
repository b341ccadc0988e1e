-- Sums over edges: by voter and by target they come to the same.
use Rattle.std.specs.Prelude.{◌≡◌, ℕ, IsTrue, nat_eq, List, sum_by, All}
use Rattle.std.specs.List.{IsDistinct}
use Rattle.npos_base.specs.declared.figures.Edge.{Edge}
use Rattle.election_snapshot.specs.Snapshot.{has}
use Rattle.weight_book.specs.Weights.{edges_from, edges_to}

-- Whatever is summed over edges that go from some voters to some targets, by voter or by target: the
-- amounts, and the voters give what the targets get; or what each edge pays.
abbrev pub ExchangeLaw : Type 0
ExchangeLaw = (value : Edge → ℕ) (edges : List Edge) (voters targets : List ℕ)
    → IsDistinct nat_eq voters → IsDistinct nat_eq targets
    → All (λ edge. IsTrue (has voters edge.voter)) edges
    → All (λ edge. IsTrue (has targets edge.target)) edges
    → sum_by (λ voter. sum_by value (edges_from edges voter)) voters
    ≡ sum_by (λ target. sum_by value (edges_to edges target)) targets
