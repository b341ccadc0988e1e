use Rattle.quota_fill.proofs.RoundLemmas.{IsDrawing}
use Rattle.quota_fill.proofs.drawing.draw_from_listed.Given as goal

-- the draws from the nominators so far
abbrev pub invariant-loop-voter : goal.invariant-loop-voter
invariant-loop-voter l = IsDrawing l.snapshot l.target l.fn.left l.fn.draws.items l.voter-index l.left l.backings l.due l.draws.items
