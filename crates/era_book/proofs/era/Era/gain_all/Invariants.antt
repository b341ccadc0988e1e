use Rattle.std.proofs.Common.{◌≡◌, take, fold}
use Rattle.era_book.specs.Members.{with_points}
use Rattle.era_book.proofs.era.Era.gain_all.Given as goal

abbrev pub invariant-loop-who : goal.invariant-loop-who
invariant-loop-who l = l.self ≡ fold with_points l.fn.self (take l.who-index l.items)
