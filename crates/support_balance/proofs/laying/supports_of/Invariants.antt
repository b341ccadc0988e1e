use Rattle.std.proofs.Common.{◌≡◌, ℕ, length, take, slice_index_or}
use Rattle.weight_book.specs.Weights.{support}
use Rattle.support_balance.proofs.laying.supports_of.Given as goal

-- what the edges so far sum to
abbrev pub invariant-loop-edge : goal.invariant-loop-edge
invariant-loop-edge l = ((target : ℕ) → slice_index_or l.supports.items target 0 ≡ support (take l.edge-index l.edges) target) × (length l.supports.items ≡ l.targets)
