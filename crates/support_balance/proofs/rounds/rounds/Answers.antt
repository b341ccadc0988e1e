use Rattle.std.proofs.Common.{arith, sym, refl, ◌∙◌}
use Rattle.support_balance.proofs.AlikeLemmas.{alike_trans, covers_alike}
use Rattle.support_balance.proofs.PutLemmas.{none_balanced}
use Rattle.support_balance.proofs.RunLemmas.{more_rounds, settled}
use Rattle.support_balance.proofs.rounds.rounds.Goals as goal

pub returns-then-asked-eq0-clause-balanced : goal.returns-then-asked-eq0-clause-balanced
returns-then-asked-eq0-clause-balanced c = λ committee _. rw c.if-asked-eq0.true (none_balanced c.args.snapshot.now committee c.args.edges.now)

pub returns-then-not-first_round-clause-balanced : goal.returns-then-not-first_round-clause-balanced
returns-then-not-first_round-clause-balanced c = λ committee covers. settled c.args.snapshot.now committee 0 c.args.edges.now c.args.edges.now c.first_round.new.edges
    (λ voter target. refl) c.first_round.ensures.alike (c.first_round.ensures.round committee covers) c.args.asked (omega (arith, c.if-asked-eq0.false))
    (sym c.first_round.ensures.changed ∙ c.if-not-first_round.true)

pub loop-made-init : goal.loop-made-init
loop-made-init c = (
  c.first_round.ensures.kept,
  c.first_round.ensures.count,
  c.first_round.ensures.alike,
  omega (arith, c.if-asked-eq0.false),
  λ committee covers. more_rounds c.args.snapshot.now committee 0 c.args.edges.now c.args.edges.now c.first_round.new.edges (λ voter target. refl)
      c.first_round.ensures.alike (c.first_round.ensures.round committee covers) c.requires.kept.rising c.first_round.ensures.kept.rising
      (sym c.first_round.ensures.changed ∙ c.if-not-first_round.false),
  c.first_round.ensures.spans,
  c.first_round.ensures.room,
)

pub returns-then-not-next_round-clause-balanced : goal.returns-then-not-next_round-clause-balanced
returns-then-not-next_round-clause-balanced c = λ committee covers.
    let (kept, count, alike, most, rounds, spans, room) = c.loop-made.invariant in
    let still = covers_alike c.args.snapshot.now committee c.args.edges.now c.loop-made.edges alike covers in
    settled c.args.snapshot.now committee c.loop-made.made c.args.edges.now c.loop-made.edges c.next_round.new.edges
    (rounds committee covers) c.next_round.ensures.alike (c.next_round.ensures.round committee still) c.args.asked (omega (arith, c.loop-made-test.true))
    (sym c.next_round.ensures.changed ∙ c.if-not-next_round.true)

pub loop-made-preserved : goal.loop-made-preserved
loop-made-preserved c =
    let (kept, count, alike, most, rounds, spans, room) = c.loop-made.invariant in (
      c.next_round.ensures.kept,
      c.next_round.ensures.count ∙ count,
      alike_trans c.args.edges.now c.loop-made.edges c.next_round.new.edges alike c.next_round.ensures.alike,
      omega (arith, c.loop-made-test.true),
      λ committee covers.
          let still = covers_alike c.args.snapshot.now committee c.args.edges.now c.loop-made.edges alike covers in
          more_rounds c.args.snapshot.now committee c.loop-made.made c.args.edges.now c.loop-made.edges c.next_round.new.edges (rounds committee covers)
          c.next_round.ensures.alike (c.next_round.ensures.round committee still) kept.rising c.next_round.ensures.kept.rising
          (sym c.next_round.ensures.changed ∙ c.if-not-next_round.false),
      rw (sym c.deref.ensures.value) c.next_round.ensures.spans,
      room,
    )
