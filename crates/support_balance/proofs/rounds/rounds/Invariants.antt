use Rattle.std.proofs.Common.{◌≡◌, ◌-◌, ◌≤◌, List, ℕ, length}
use Rattle.std.specs.Vec.{vec_capacity}
use Rattle.support_balance.specs.Rounds.{AreRounds}
use Rattle.support_balance.specs.Rows.{AreAlike}
use Rattle.support_balance.specs.Laid.{Covers, AreKept}
use Rattle.support_balance.specs.Spans.{AreSpans}
use Rattle.support_balance.proofs.rounds.rounds.Given as goal

-- each round so far changed an amount
abbrev pub invariant-loop-made : goal.invariant-loop-made
invariant-loop-made l = AreKept l.supports l.edges × (length l.supports ≡ length l.fn.supports) × AreAlike l.fn.edges l.edges × (l.made ≤ l.asked)
    × ((committee : List ℕ) → Covers l.snapshot committee l.fn.edges → AreRounds l.snapshot committee l.made l.fn.edges l.edges)
    × AreSpans l.snapshot (length l.snapshot.voters) l.edges l.spans.items × (vec_capacity l.spans ≡ vec_capacity l.fn.spans)

abbrev pub decreases-loop-made : goal.decreases-loop-made
decreases-loop-made l = l.asked - l.made
