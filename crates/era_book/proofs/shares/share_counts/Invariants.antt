use Rattle.std.proofs.Common.{◌≡◌, length}
use Rattle.era_book.proofs.shares.share_counts.Given as goal

abbrev pub invariant-loop-edge : goal.invariant-loop-edge
invariant-loop-edge l = length l.counts.items ≡ l.targets
