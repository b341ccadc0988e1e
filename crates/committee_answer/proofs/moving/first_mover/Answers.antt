use Rattle.std.proofs.Common.{arith, ◌≡◌, get_or, subst, ◌∙◌}
use Rattle.std.proofs.lemmas.List.{get_or_default}
use Rattle.seat_race.proofs.InLemmas.{from_has, in_contains}
use Rattle.committee_answer.specs.Offers.{at}
use Rattle.committee_answer.specs.Ways.{IsReached}
use Rattle.committee_answer.proofs.moving.first_mover.Goals as goal

pub returns-clause-none : goal.returns-clause-none
returns-clause-none c = λ voter there reached.
    let voters = c.args.voters.now in
    let place = in_contains voters voter (from_has voters voter there) in
    let is : get_or voters place.0 0 ≡ voter = get_or_default voters place.0 0 voter place.1 ∙ place.2 in
    subst (λ v. IsReached c.args.reach.now.voters.items v → at c.args.offers.now.left.items v ≡ 0) is
    (c.loop-voter.invariant place.0 (omega (arith, place.1, c.loop-voter-test.false))) reached
