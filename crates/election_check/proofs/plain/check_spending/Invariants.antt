use Rattle.election_check.proofs.StepLemmas.{AreSpent}
use Rattle.election_check.proofs.plain.check_spending.Given as goal

-- what the edges so far leave
abbrev pub invariant-loop-edge : goal.invariant-loop-edge
invariant-loop-edge l = AreSpent l.snapshot l.edges l.edge-index l.lowest l.left
