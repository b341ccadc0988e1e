use Rattle.std.proofs.Common.{◌≡◌, ◌≤◌, take}
use Rattle.voter_lists.specs.BagRows.{falling}
use Rattle.voter_lists.specs.Nodes.{bags_in}
use Rattle.voter_lists.proofs.nodes.Nodes.top_below.Given as goal

-- no bag that was passed has an account
abbrev pub invariant-loop-lower : goal.invariant-loop-lower
invariant-loop-lower l = (l.lower ≤ l.fn.number) × (falling (take l.fn.number (bags_in l.fn.self)) ≡ falling (take l.lower (bags_in l.fn.self)))

abbrev pub decreases-loop-lower : goal.decreases-loop-lower
decreases-loop-lower l = l.lower
