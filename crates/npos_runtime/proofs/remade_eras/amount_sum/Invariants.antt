use Rattle.std.proofs.Common.{◌≡◌, take}
use Rattle.era_book.specs.Exposures.{amount_sum}
use Rattle.npos_runtime.proofs.remade_eras.amount_sum.Given as goal

-- what the backers so far give
abbrev pub invariant-loop-backer : goal.invariant-loop-backer
invariant-loop-backer l = l.sum ≡ amount_sum (take l.backer-index l.backers)
