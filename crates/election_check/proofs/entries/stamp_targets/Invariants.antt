use Rattle.std.proofs.Common.{◌≡◌, ℕ, [], take, drop, slice_index_or, map}
use Rattle.std.specs.Prelude.{if◌then◌else◌}
use Rattle.election_snapshot.specs.Snapshot.{has}
use Rattle.compact_solution.specs.declared.entry.Share.{Share}
use Rattle.compact_solution.specs.Solution.{targets_of}
use Rattle.election_check.specs.Packed.{first_repeat}
use Rattle.election_check.proofs.entries.stamp_targets.Given as goal

-- no target so far stands twice, and they alone are stamped
abbrev pub invariant-loop-share : goal.invariant-loop-share
invariant-loop-share l = record {
  items : l.share-items ≡ l.entry.shares;
  rest : first_repeat (map (λ (share : Share). share.target) (take l.share-index l.share-items))
      (targets_of (record { voter = l.entry.voter; shares = drop l.share-index l.share-items; last = l.entry.last }))
      ≡ first_repeat [] (targets_of l.entry);
  stamped : (target : ℕ) → slice_index_or l.stamps target 0
      ≡ (if has (map (λ (share : Share). share.target) (take l.share-index l.share-items)) target then l.stamp else slice_index_or l.initial.stamps target 0);
}
