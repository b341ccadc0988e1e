use Rattle.std.proofs.Common.{◌≡◌, ◌<◌, ◌^◌, take}
use Rattle.era_book.specs.Exposures.{amount_sum}
use Rattle.state_rules.proofs.eras.are_too_much.Given as goal

abbrev pub invariant-loop-line : goal.invariant-loop-line
invariant-loop-line l = record { is : l.sum ≡ amount_sum (take l.line-index l.lines); fits : l.sum < 2 ^ 64 }
