use Rattle.std.proofs.Common.{arith, ◌≡◌, ℕ, List, sym, subst, ap, ◌∙◌}
use Rattle.seq_phragmen.specs.Mined.{picked}
use Rattle.seq_phragmen.specs.Kept.{IsRunning}
use Rattle.seq_phragmen.proofs.SeatLemmas.{as_many, picks_are, has_spare, seats_more}
use Rattle.seq_phragmen.proofs.mining.fill_seats.Goals as goal

pub take_seat-requires-clause-state : goal.take_seat-requires-clause-state
take_seat-requires-clause-state c = let snapshot = c.args.snapshot.now in
    subst (λ (picks : List ℕ). IsRunning snapshot picks c.loop.race c.loop.weights c.loop.rises.items)
    (picks_are snapshot (picked snapshot c.loop.counter) c.loop.race c.loop.weights c.loop.rises.items c.loop.invariant) c.loop.invariant

pub take_seat-requires-clause-picks : goal.take_seat-requires-clause-picks
take_seat-requires-clause-picks c = let snapshot = c.args.snapshot.now in
    sym (picks_are snapshot (picked snapshot c.loop.counter) c.loop.race c.loop.weights c.loop.rises.items c.loop.invariant)
    ∙ ap (picked snapshot) (as_many snapshot c.loop.counter c.loop.race c.loop.weights c.loop.rises.items c.seats-end.ensures.well_formed
    (omega (arith, c.loop-test.true, c.seats-end.ensures.seats)) c.loop.invariant)

pub take_seat-requires-clause-spare : goal.take_seat-requires-clause-spare
take_seat-requires-clause-spare c =
    has_spare c.args.snapshot.now c.loop.counter c.loop.race c.loop.weights c.loop.rises.items c.seats-end.ensures.well_formed
    (omega (arith, c.loop-test.true, c.seats-end.ensures.seats)) c.loop.invariant

pub loop-preserved : goal.loop-preserved
loop-preserved c =
    seats_more c.args.snapshot.now c.loop.counter c.loop.race c.take_seat.new.race c.loop.weights c.take_seat.new.weights c.loop.rises.items c.take_seat.new.rises.items
    c.loop.invariant c.in_ok-take_seat.ensures

pub returns-clause-running : goal.returns-clause-running
returns-clause-running c =
    let snapshot = c.args.snapshot.now in
    let done : c.loop.counter ≡ snapshot.seats = omega (arith, c.loop-test.false, c.loop.auto.counter-end, c.seats-end.ensures.seats) in
    subst (λ n. IsRunning snapshot (picked snapshot n) c.loop.race c.loop.weights c.loop.rises.items) done c.loop.invariant
