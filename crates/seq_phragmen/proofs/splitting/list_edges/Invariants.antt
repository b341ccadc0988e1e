use Rattle.std.proofs.Common.{◌≡◌, ◌++◌, take}
use Rattle.seat_race.specs.Tables.{says}
use Rattle.seq_phragmen.specs.Kept.{gifts_of}
use Rattle.seq_phragmen.proofs.splitting.list_edges.Given as goal

-- the edges of the rises so far stand
abbrev pub invariant-loop-rise : goal.invariant-loop-rise
invariant-loop-rise l = l.edges.items ≡ l.fn.edges.items ++ gifts_of l.snapshot (says l.loads) (says l.lasts) (says l.left) (take l.rise-index l.rises)
