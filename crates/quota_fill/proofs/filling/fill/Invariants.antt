use Rattle.quota_fill.specs.Filled.{picked}
use Rattle.quota_fill.specs.Kept.{IsFilling}
use Rattle.quota_fill.proofs.filling.fill.Given as goal

-- the seats so far are filled
abbrev pub invariant-loop : goal.invariant-loop
invariant-loop l = IsFilling l.snapshot (picked l.snapshot l.counter) l.race l.weights l.draws.items
