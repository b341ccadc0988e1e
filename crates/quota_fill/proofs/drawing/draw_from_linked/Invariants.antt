use Rattle.std.proofs.Common.{◌-◌}
use Rattle.quota_fill.specs.Chains.{nowhere}
use Rattle.quota_fill.proofs.RoundLemmas.{IsAlong}
use Rattle.quota_fill.proofs.drawing.draw_from_linked.Given as goal

-- the draws from the nominators so far
abbrev pub invariant-voters : goal.invariant-voters
invariant-voters l = IsAlong l.snapshot l.target l.fn.left l.fn.draws.items l.link l.left l.backings l.due l.draws.items

-- voters rise
abbrev pub decreases-voters : goal.decreases-voters
decreases-voters l = nowhere.voter - l.link.voter
