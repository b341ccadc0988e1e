use Rattle.std.proofs.Common.{◌≡◌, find, not, drop}
use Rattle.election_snapshot.specs.Snapshot.{has}
use Rattle.compact_solution.specs.Solution.{targets_of}
use Rattle.election_check.proofs.entries.first_unnominated.Given as goal

-- all targets so far are among the votes
abbrev pub invariant-loop-place : goal.invariant-loop-place
invariant-loop-place l = record {
  items : l.share-items ≡ l.entry.shares;
  rest : find (λ target. not (has l.votes target)) (targets_of (record { voter = l.entry.voter; shares = drop l.place l.share-items; last = l.entry.last }))
      ≡ find (λ target. not (has l.votes target)) (targets_of l.entry);
}
