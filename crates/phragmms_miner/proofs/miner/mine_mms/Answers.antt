use Rattle.std.proofs.Common.{rules, arith, ◌≡◌, ◌+◌, suc, List, ℕ, length, [], ◌∷◌, ap, subst, ◌∙◌}
use Rattle.std.proofs.lemmas.List.{length-append}
use Rattle.phragmms_miner.specs.Run.{AreSeated}
use Rattle.phragmms_miner.proofs.RunLemmas.{next_seated, whole_run, whole_feasible}
use Rattle.phragmms_miner.proofs.miner.mine_mms.Goals as goal

pub loop-seat-preserved : goal.loop-seat-preserved
loop-seat-preserved c =
    let (is, count, seated, within, tables) = c.loop-seat.invariant in
    let next = c.in_ok-seat_one.ensures.next in
    let old = c.loop-seat.backing.weights in
    let new = c.seat_one.new.backing.weights in
    let one : suc c.loop-seat.seat ≡ c.loop-seat.seat + 1 = omega arith in
    let more : AreSeated c.args.snapshot.now c.args.rounds new.committee (suc c.loop-seat.seat) new.edges =
    next_seated c.args.snapshot.now c.args.rounds old new c.loop-seat.seat count next seated in (
      c.seat_one.ensures.snapshot,
      ap (λ (ns : List ℕ). length ns) next.committee ∙ omega (arith, length-append old.committee (next.pick ∷ []), count),
      subst (λ n. AreSeated c.args.snapshot.now c.args.rounds new.committee n new.edges) one more,
      c.in_ok-seat_one.ensures.within,
      c.seat_one.ensures.tables,
    )

pub returns-clause-run : goal.returns-clause-run
returns-clause-run c =
    let (is, count, seated, within, tables) = c.loop-seat.invariant in
    let end : c.loop-seat.seat ≡ c.args.snapshot.now.seats = search rules in
    whole_run c.args.snapshot.now c.args.rounds c.loop-seat.backing.weights c.put_into.new.weights.plain (count ∙ end) c.in_ok-put_into.ensures.committee
    c.in_ok-put_into.ensures.same
    (subst (λ n. AreSeated c.args.snapshot.now c.args.rounds c.loop-seat.backing.weights.committee n c.loop-seat.backing.weights.edges) end seated)
    c.in_ok-put_into.ensures.listed

pub returns-clause-feasible : goal.returns-clause-feasible
returns-clause-feasible c =
    let (is, count, seated, within, tables) = c.loop-seat.invariant in
    let end : c.loop-seat.seat ≡ c.args.snapshot.now.seats = search rules in
    whole_feasible c.args.snapshot.now c.args.rounds c.loop-seat.backing.weights c.put_into.new.weights.plain (count ∙ end) c.in_ok-put_into.ensures.committee
    c.in_ok-put_into.ensures.same (rw is at c.in_ok-put_into.ensures.follows) within
