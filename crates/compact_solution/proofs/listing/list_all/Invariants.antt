use Rattle.std.proofs.Common.{◌≡◌, length}
use Rattle.compact_solution.specs.Packing.{grouped}
use Rattle.compact_solution.proofs.listing.list_all.Given as goal

-- the entries of the voters so far
abbrev pub invariant-loop-voter : goal.invariant-loop-voter
invariant-loop-voter l = l.groups ≡ grouped (length l.fn.groups) l.stakes l.kept l.voter
