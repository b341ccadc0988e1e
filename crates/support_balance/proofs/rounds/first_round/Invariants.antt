use Rattle.std.proofs.Common.{◌≡◌, ◌≤◌}
use Rattle.std.specs.Vec.{vec_len, vec_capacity}
use Rattle.support_balance.specs.Spans.{AreSpans}
use Rattle.support_balance.proofs.RoundLemmas.{IsTurned}
use Rattle.support_balance.proofs.rounds.first_round.Given as goal

-- the voters so far had their turns, and each of them has its span or is idle
abbrev pub invariant-loop-voter : goal.invariant-loop-voter
invariant-loop-voter l = IsTurned l.snapshot l.fn.edges l.fn.supports l.edges l.supports l.start l.changed l.voter × AreSpans l.snapshot l.voter l.edges l.spans.items
    × (vec_len l.spans ≤ l.voter) × (vec_capacity l.spans ≡ vec_capacity l.fn.spans)
