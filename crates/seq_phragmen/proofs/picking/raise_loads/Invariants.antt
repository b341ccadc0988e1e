use Rattle.seq_phragmen.proofs.RaiseLemmas.{IsRaising}
use Rattle.seq_phragmen.proofs.picking.raise_loads.Given as goal

-- the rises of the nominators so far
abbrev pub invariant-loop-voter : goal.invariant-loop-voter
invariant-loop-voter l = IsRaising l.snapshot l.target l.score l.fn.loads l.fn.lasts l.fn.rises.items l.voter-index l.loads l.lasts l.burdens l.rises.items
