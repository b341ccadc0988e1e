use Rattle.std.proofs.Common.{◌≡◌, ℕ, ◌≤◌, length}
use Rattle.bundle_json.proofs.Grammar.{behind, listed}
use Rattle.bundle_json.proofs.item.list_at.Given as goal

-- what was found and what is left are the items of the whole array
abbrev pub invariant-loop-alloc : goal.invariant-loop-alloc
invariant-loop-alloc g l =
    (n : ℕ) × (length l.tokens ≤ n) × (length l.found.items ≤ l.most)
    × ((depth : ℕ) → g.T.Item.nests ≤ depth
    → listed g.T.Item.read depth (length l.initial.tokens) l.initial.tokens ≡ behind l.found.items (listed g.T.Item.read depth n l.tokens))

abbrev pub decreases-loop-alloc : goal.decreases-loop-alloc
decreases-loop-alloc g l = length l.tokens
