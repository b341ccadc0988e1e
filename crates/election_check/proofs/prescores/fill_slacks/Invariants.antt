use Rattle.std.proofs.Common.{◌≡◌}
use Rattle.election_snapshot.specs.Snapshot.{threshold}
use Rattle.seat_race.proofs.PaidLemmas.{ArePaid}
use Rattle.election_check.proofs.prescores.fill_slacks.Given as goal

-- what the pays so far leave
abbrev pub invariant-loop-edge : goal.invariant-loop-edge
invariant-loop-edge l = ArePaid l.price l.snapshot l.weights.plain.edges l.edge-index l.left × (l.price ≡ threshold l.snapshot)
