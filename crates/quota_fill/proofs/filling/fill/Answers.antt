use Rattle.std.proofs.Common.{arith, ◌≡◌, ℕ, ◌≤◌, List, length, IsPermutation, subst, ap₂, ◌∙◌}
use Rattle.npos_base.specs.declared.figures.Edge.{Edge}
use Rattle.weight_book.specs.Weights.{Weights}
use Rattle.quota_fill.specs.Filled.{picked}
use Rattle.quota_fill.specs.Kept.{IsFilling}
use Rattle.quota_fill.proofs.PickLemmas.{are_run}
use Rattle.quota_fill.proofs.SeatLemmas.{has_spare, seats_more}
use Rattle.quota_fill.proofs.SortLemmas.{sorted_draws}
use Rattle.quota_fill.proofs.filling.fill.Goals as goal

abbrev weights_of : List ℕ → List Edge → Weights
weights_of committee edges = record { committee = committee; edges = edges }

pub fill_seat-requires-clause-spare : goal.fill_seat-requires-clause-spare
fill_seat-requires-clause-spare c =
    has_spare c.args.snapshot.now c.loop.counter c.loop.race c.loop.weights c.loop.draws.items c.voter_count.ensures.well_formed
    (omega (arith, c.loop-test.true, c.seats-end.ensures.seats)) c.loop.invariant

pub loop-preserved : goal.loop-preserved
loop-preserved c =
    seats_more c.args.snapshot.now c.loop.counter c.loop.race c.fill_seat.new.race c.loop.weights c.fill_seat.new.weights c.loop.draws.items c.fill_seat.new.draws.items
    c.loop.invariant c.in_ok-fill_seat.ensures

pub returns-clause-filled : goal.returns-clause-filled
returns-clause-filled c =
    let snapshot = c.args.snapshot.now in
    let done : c.loop.counter ≡ snapshot.seats = omega (arith, c.loop-test.false, c.loop.auto.counter-end, c.seats-end.ensures.seats) in
    let filling = subst (λ n. IsFilling snapshot (picked snapshot n) c.loop.race c.loop.weights c.loop.draws.items) done c.loop.invariant in
    let picks = picked snapshot snapshot.seats in
    let moved = subst (λ (es : List Edge). IsPermutation es c.put_by_voter.new.weights.plain.edges) (c.deref_mut.ensures.value ∙ filling.draws_are) c.in_ok-put_by_voter.ensures.same in
    let few : length snapshot.targets ≤ 65536 = omega (arith, c.voter_count.ensures.well_formed.voters.targets_few) in
    let edges = sorted_draws snapshot few picks (are_run snapshot snapshot.seats) c.put_by_voter.new.weights.plain.edges moved c.in_ok-put_by_voter.ensures.order in
    ap₂ weights_of (c.in_ok-put_by_voter.ensures.members ∙ filling.members) edges
