use Rattle.seq_phragmen.specs.Mined.{picked}
use Rattle.seq_phragmen.specs.Kept.{IsRunning}
use Rattle.seq_phragmen.proofs.mining.fill_seats.Given as goal

-- the seats so far are filled
abbrev pub invariant-loop : goal.invariant-loop
invariant-loop l = IsRunning l.snapshot (picked l.snapshot l.counter) l.race l.weights l.rises.items
