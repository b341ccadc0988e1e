use Rattle.std.proofs.Common.{◌≡◌, ℕ, ◌-◌, ◌<◌, ◌≤◌, length, get_or}
use Rattle.npos_base.specs.declared.figures.Edge.{Edge}
use Rattle.support_balance.proofs.rounds.row_end.Given as goal

-- the edges so far are the voter's
abbrev pub invariant-loop-end : goal.invariant-loop-end
invariant-loop-end l = (l.start ≤ l.end) × (l.end ≤ length l.edges) × ((k : ℕ) (d : Edge) → l.start ≤ k → k < l.end → (get_or l.edges k d).voter ≡ l.voter)

abbrev pub decreases-loop-end : goal.decreases-loop-end
decreases-loop-end l = length l.edges - l.end
