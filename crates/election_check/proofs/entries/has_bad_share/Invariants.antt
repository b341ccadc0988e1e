use Rattle.std.proofs.Common.{◌≡◌, ◌≤◌, ◌<◌, ◌*◌, length, take, map}
use Rattle.std.specs.Prelude.{sum, nat_eq}
use Rattle.std.specs.List.{list_any}
use Rattle.compact_solution.specs.declared.entry.Share.{Share}
use Rattle.compact_solution.specs.declared.entry.TheConstants.{WIDE_GROUPS}
use Rattle.election_check.proofs.entries.has_bad_share.Given as goal

-- the sum of the shares so far, and whether one of them is nothing
abbrev pub invariant-loop-share : goal.invariant-loop-share
invariant-loop-share l = record {
  few : length l.share-items < WIDE_GROUPS;
  sum_is : l.sum ≡ sum (map (λ (share : Share). share.parts) (take l.share-index l.share-items));
  bounded : l.sum ≤ l.share-index * 65536;
  bad_is : l.is_bad ≡ list_any (λ parts. nat_eq parts 0) (map (λ (share : Share). share.parts) (take l.share-index l.share-items));
}
