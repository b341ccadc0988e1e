use Rattle.std.proofs.Common.{length}
use Rattle.support_balance.specs.Spans.{AreSpans}
use Rattle.support_balance.proofs.RoundLemmas.{IsTurned}
use Rattle.support_balance.proofs.SpanLemmas.{passed, read}
use Rattle.support_balance.proofs.rounds.next_round.Given as goal

-- the voters up to the next span had their turns
abbrev pub invariant-loop-span : goal.invariant-loop-span
invariant-loop-span l = IsTurned l.snapshot l.fn.edges l.fn.supports l.edges l.supports (read l.spans l.span-index) l.changed (passed l.spans l.span-index)
    × AreSpans l.snapshot (length l.snapshot.voters) l.edges l.spans
