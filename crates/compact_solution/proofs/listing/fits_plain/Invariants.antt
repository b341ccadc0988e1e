use Rattle.std.proofs.Common.{◌≡◌, true, nat_le, length, take}
use Rattle.std.specs.List.{list_all}
use Rattle.compact_solution.specs.Solution.{plain_groups}
use Rattle.compact_solution.proofs.listing.fits_plain.Given as goal

-- none of the voters so far keeps more
abbrev pub invariant-loop-edges : goal.invariant-loop-edges
invariant-loop-edges l = list_all (λ edges. nat_le (length edges) plain_groups) (take l.edges-index l.kept) ≡ true
