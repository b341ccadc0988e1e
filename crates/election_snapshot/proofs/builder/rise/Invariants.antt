use Rattle.std.proofs.Common.{ℕ, ◌+◌, ◌<◌, slice_index}
use Rattle.election_snapshot.proofs.builder.rise.Given as goal

-- the votes so far rise
abbrev pub invariant-loop-place : goal.invariant-loop-place
invariant-loop-place l = (k : ℕ) → k + 1 < l.place → slice_index l.votes k < slice_index l.votes (k + 1)
