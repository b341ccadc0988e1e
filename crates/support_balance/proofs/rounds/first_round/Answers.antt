use Rattle.std.proofs.Common.{rules, arith, ◌≡◌, refl, sym, subst, ◌∙◌}
use Rattle.election_snapshot.specs.Snapshot.{stake_of}
use Rattle.support_balance.specs.Rounds.{AreTurns}
use Rattle.support_balance.proofs.RoundLemmas.{none_turned, row_sound, turned_next}
use Rattle.support_balance.proofs.SpanLemmas.{no_spans, spans_noted}
use Rattle.support_balance.proofs.rounds.first_round.Goals as goal

pub loop-voter-init : goal.loop-voter-init
loop-voter-init c = (
  none_turned c.args.snapshot.now c.args.edges.now c.args.supports.now c.requires.kept,
  rw c.clear.ensures.items (no_spans c.args.snapshot.now c.args.edges.now),
  omega (arith, c.clear.ensures.len),
  c.clear.ensures.capacity,
)

pub turn-changed-requires : goal.turn-changed-requires
turn-changed-requires c = row_sound _ _ _ _ _ _ _ _ c.loop-voter.invariant.0 c.row_end-end.result
    c.row_end-end.ensures.from c.row_end-end.ensures.within c.row_end-end.ensures.own c.row_end-end.ensures.next

pub loop-voter-preserved : goal.loop-voter-preserved
loop-voter-preserved c =
    let (turned, spans, few, room) = c.loop-voter.invariant in
    let stake : c.stake.result ≡ stake_of c.args.snapshot.now c.loop-voter.voter = c.stake.ensures.stake in
    let next = turned_next _ _ _ _ _ _ _ _ turned c.row_end-end.result c.row_end-end.ensures.from c.row_end-end.ensures.within c.row_end-end.ensures.own c.row_end-end.ensures.next
    c.turn-changed.new.row c.turn-changed.new.supports c.turn-changed.result c.turn-changed.ensures.alike c.turn-changed.ensures.moved (rw (sym stake) c.turn-changed.ensures.even)
    c.turn-changed.ensures.changed (rw (sym stake) c.stake.type_inv) (search rules) in
    let noted = spans_noted _ _ _ _ _ _ _ _ turned c.row_end-end.result c.row_end-end.ensures.from c.row_end-end.ensures.within c.row_end-end.ensures.own c.row_end-end.ensures.next
    c.turn-changed.new.row c.turn-changed.new.supports c.turn-changed.result c.turn-changed.ensures.alike c.turn-changed.ensures.moved (rw (sym stake) c.turn-changed.ensures.even)
    c.turn-changed.ensures.changed (rw (sym stake) c.stake.type_inv) (search rules) c.loop-voter.voter
    c.loop-voter.spans.items spans refl c.note.new.spans.items c.note.ensures.noted c.note.ensures.left_out in
    (next, noted, omega (arith, few, c.note.ensures.more), c.note.ensures.room ∙ room)

pub returns-clause-round : goal.returns-clause-round
returns-clause-round c = λ committee covers. subst (λ n. AreTurns c.args.snapshot.now committee n c.args.edges.now c.loop-voter.edges) (search rules) (c.loop-voter.invariant.0.turns committee covers)

pub returns-clause-spans : goal.returns-clause-spans
returns-clause-spans c = search rules
