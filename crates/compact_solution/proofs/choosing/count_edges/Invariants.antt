use Rattle.std.proofs.Common.{◌≡◌, ◌≤◌, ℕ, length, get_or}
use Rattle.compact_solution.proofs.choosing.count_edges.Given as goal

-- no voter has more edges than were counted
abbrev pub invariant-loop-edge : goal.invariant-loop-edge
invariant-loop-edge l = record {
  voters : length l.counts.items ≡ l.voters;
  few : (k : ℕ) → get_or l.counts.items k 0 ≤ l.edge-index;
}
