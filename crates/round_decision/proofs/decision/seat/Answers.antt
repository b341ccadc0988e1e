use Rattle.std.proofs.Common.{◌<◌, All, length, subst}
use Rattle.std.specs.List.Sorted.{IsStrictlyIncreasing}
use Rattle.election_snapshot.specs.Snapshot.{Snapshot}
use Rattle.round_decision.proofs.SeatLemmas.{in_order}
use Rattle.round_decision.proofs.decision.seat.Goals as goal

pub returns-clause-weights : goal.returns-clause-weights
returns-clause-weights c =
    let of = c.committee-committee.ensures in
    in_order c.args.snapshot c.args.weights.plain c.of-elected.result.weights.plain c.of-elected.ensures.weights.members c.of-elected.ensures.weights.edges
    (subst IsStrictlyIncreasing of.members of.rising)
    (subst (λ (s : Snapshot). All (λ member. member < length s.targets) c.of-elected.result.weights.plain.committee) c.of-elected.ensures.snapshot
    of.feasible.follows.members_in_range)
