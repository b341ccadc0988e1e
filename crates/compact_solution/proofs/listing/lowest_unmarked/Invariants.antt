use Rattle.std.proofs.Common.{◌≡◌, false, not, get_or, take}
use Rattle.compact_solution.specs.Packing.{lowest_where}
use Rattle.compact_solution.proofs.listing.lowest_unmarked.Given as goal

-- the lowest of the members so far that is not marked
abbrev pub invariant-loop-member : goal.invariant-loop-member
invariant-loop-member l = l.lowest ≡ lowest_where (λ member. not (get_or l.marks member false)) (take l.member-index l.members)
