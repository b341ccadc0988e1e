use Rattle.seat_race.proofs.PaidLemmas.{ArePaid}
use Rattle.phragmms_miner.proofs.pass.fill_slacks.Given as goal

-- what the pays so far leave
abbrev pub invariant-loop-edge : goal.invariant-loop-edge
invariant-loop-edge l = ArePaid l.price l.snapshot l.edges l.edge-index l.left
