use Rattle.std.proofs.Common.{arith, ◌≡◌, length, sym}
use Rattle.support_balance.proofs.RoundLemmas.{none_turned}
use Rattle.support_balance.proofs.SpanLemmas.{span_sound, span_turned, span_kept, turns_all}
use Rattle.support_balance.proofs.rounds.next_round.Goals as goal

pub loop-span-init : goal.loop-span-init
loop-span-init c = (none_turned c.args.snapshot.now c.args.edges.now c.args.supports.now c.requires.kept, c.requires.spans)

pub turn-changed-requires : goal.turn-changed-requires
turn-changed-requires c = let (turned, spans) = c.loop-span.invariant in span_sound _ _ _ _ _ _ _ _ turned spans (omega (arith, c.loop-span-test.true)) c.loop-span-test.true

pub loop-span-preserved : goal.loop-span-preserved
loop-span-preserved c =
    let (turned, spans) = c.loop-span.invariant in
    let stake = c.stake.ensures.stake in
    let within = c.loop-span-test.true in (
      span_turned _ _ _ _ _ _ _ _ turned spans (omega (arith, within)) within c.turn-changed.new.row c.turn-changed.new.supports c.turn-changed.result
          c.turn-changed.ensures.alike c.turn-changed.ensures.moved (rw (sym stake) c.turn-changed.ensures.even) c.turn-changed.ensures.changed (rw (sym stake) c.stake.type_inv),
      span_kept _ _ _ _ _ _ _ _ turned spans (omega (arith, within)) within c.turn-changed.new.row c.turn-changed.new.supports c.turn-changed.result
          c.turn-changed.ensures.alike c.turn-changed.ensures.moved (rw (sym stake) c.turn-changed.ensures.even) c.turn-changed.ensures.changed (rw (sym stake) c.stake.type_inv),
    )

pub returns-clause-round : goal.returns-clause-round
returns-clause-round c = let (turned, spans) = c.loop-span.invariant in
    let all : c.loop-span.span-index ≡ length c.args.spans.now = omega (arith, c.loop-span-test.false, c.loop-span.auto.span-index-end) in
    turns_all _ _ _ _ _ _ _ _ turned spans (omega (arith, all)) all
