use Rattle.std.proofs.Common.{◌≡◌, drop}
use Rattle.std.specs.Prelude.{find, nat_le}
use Rattle.compact_solution.specs.Solution.{targets_of}
use Rattle.election_check.proofs.entries.first_beyond.Given as goal

-- no target so far is beyond
abbrev pub invariant-loop-share : goal.invariant-loop-share
invariant-loop-share l =
    find (λ target. nat_le l.count target) (targets_of (record { voter = l.entry.voter; shares = drop l.share-index l.share-items; last = l.entry.last }))
    ≡ find (λ target. nat_le l.count target) (targets_of l.entry)
