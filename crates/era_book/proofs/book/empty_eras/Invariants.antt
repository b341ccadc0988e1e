use Rattle.std.proofs.Common.{◌≡◌, [], replicate}
use Rattle.era_book.proofs.book.empty_eras.Given as goal

abbrev pub invariant-loop : goal.invariant-loop
invariant-loop l = l.eras.items ≡ replicate l.counter []
