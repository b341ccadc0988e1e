use Rattle.std.proofs.Common.{ℕ, ◌-◌, ◌<◌, ◌≤◌, length, slice_index_or}
use Rattle.npos_base.specs.declared.figures.Edge.{Edge}
use Rattle.support_balance.specs.Rounds.{IsBefore}
use Rattle.support_balance.specs.Slots.{slot_of}
use Rattle.support_balance.proofs.laying.place_from.Given as goal

-- what was passed stands before
abbrev pub invariant-loop-place : goal.invariant-loop-place
invariant-loop-place l = (l.start ≤ l.place) × (l.place ≤ length l.edges)
    × ((k : ℕ) (d : Edge) → l.start ≤ k → k < l.place → IsBefore (slice_index_or l.edges k d) (slot_of l.voter l.target))

abbrev pub decreases-loop-place : goal.decreases-loop-place
decreases-loop-place l = length l.edges - l.place
