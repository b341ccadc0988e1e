use Rattle.std.proofs.Common.{◌≡◌, ◌++◌, take}
use Rattle.std.specs.List.{flat_map}
use Rattle.compact_solution.specs.Solution.{share_form}
use Rattle.compact_solution.proofs.writing.write_shares.Given as goal

-- the shares so far were written
abbrev pub invariant-loop-share : goal.invariant-loop-share
invariant-loop-share l = l.pen ≡ l.initial.pen ++ flat_map share_form.spelling (take l.share-index l.shares)
