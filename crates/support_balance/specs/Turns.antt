-- Turns, after Cevallos and Stewart: a voter hands its whole stake out over the members that it
-- nominates, so that no unit could lie lower.
use Rattle.std.specs.Prelude.{◌≡◌, ◌≢◌, ℕ, ◌+◌, ◌<◌, ◌≤◌, ◌⊎◌, Bool, ◌&&◌, not, IsTrue, IsFalse, nat_eq, List, filter}
use Rattle.npos_base.specs.declared.figures.Edge.{Edge}
use Rattle.election_snapshot.specs.Snapshot.{Snapshot, has, nominates, stake_of}
use Rattle.weight_book.specs.Weights.{edges_from, edges_to, amount_sum, support, spent}

-- what the voter gives to the target
abbrev pub given : List Edge → ℕ → ℕ → ℕ
given edges voter target = amount_sum (edges_to (edges_from edges voter) target)

-- the edges of all others
abbrev pub edges_but : List Edge → ℕ → List Edge
edges_but edges voter = filter (λ edge. not (nat_eq edge.voter voter)) edges

-- the target is a member, and the voter nominates it
abbrev pub backs : Snapshot → List ℕ → ℕ → ℕ → Bool
backs snapshot committee voter target = has committee target && nominates snapshot voter target

-- The last unit of the one lies lower than the next unit of the other would. At equal supports the
-- lower position comes first.
abbrev pub LiesLow : (ℕ → ℕ) → ℕ → ℕ → Type 0
LiesLow supports one other =
    (supports one ≤ supports other) ⊎ ((supports one ≡ supports other + 1) × (one < other))

-- Edges before and after a turn at the voter. There is no unit by unit filling here, but the
-- amounts are unique.
pub record IsTurn (snapshot : Snapshot) (committee : List ℕ) (voter : ℕ) (old new : List Edge) : Type 0 where
  pub others : edges_but new voter ≡ edges_but old voter
  pub to_backed : (target : ℕ) → IsFalse (backs snapshot committee voter target) → given new voter target ≡ 0
  pub whole : (target : ℕ) → IsTrue (backs snapshot committee voter target)
      → spent new voter ≡ stake_of snapshot voter
  pub level : (one other : ℕ) → IsTrue (backs snapshot committee voter one)
      → IsTrue (backs snapshot committee voter other) → one ≢ other → 0 < given new voter one
      → LiesLow (support new) one other
