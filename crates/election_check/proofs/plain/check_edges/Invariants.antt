use Rattle.election_check.proofs.StepLemmas.{AreEdges}
use Rattle.election_check.proofs.plain.check_edges.Given as goal

-- the edges so far had no fault and their nominations are marked
abbrev pub invariant-loop-edge : goal.invariant-loop-edge
invariant-loop-edge l = AreEdges l.snapshot l.weights.plain l.edge-index l.is_seen
