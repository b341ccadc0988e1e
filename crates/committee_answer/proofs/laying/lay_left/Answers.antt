use Rattle.std.proofs.Common.{rules, arith, ◌≡◌, ℕ, ◌<◌, ◌*◌, List, length, get_or, ap₂, subst, sym, ◌∙◌}
use Rattle.std.proofs.lemmas.List.{take_all, length-set}
use Rattle.seat_race.proofs.InLemmas.{In, from_has}
use Rattle.election_snapshot.specs.Snapshot.{stake_of}
use Rattle.committee_answer.proofs.LayLemmas.{given_next, none_next, rest_next, sum_next}
use Rattle.committee_answer.proofs.laying.lay_left.Goals as goal

pub loop-voter-preserved : goal.loop-voter-preserved
loop-voter-preserved c =
    let snapshot = c.args.snapshot.now in
    let voters = c.args.voters.now in
    let i = c.loop-voter.voter-index in
    let so = c.loop-voter.invariant in
    let h : i < length voters = search rules in
    let inside : get_or voters i 0 < length c.loop-voter.left = omega (arith, c.requires.in_range i 0 h, so.4) in
    let offer_is : c.from-seats.result * c.from.result ≡ snapshot.seats * stake_of snapshot (get_or voters i 0) =
    ap₂ (λ a b. a * b) (c.from-seats.ensures ∙ c.seats.ensures.seats) (c.from.ensures ∙ c.stake.ensures.stake) in
    rw offer_is (
      given_next snapshot voters c.requires.distinct i h c.loop-voter.left inside so.0 so.1,
      none_next snapshot voters c.requires.distinct i h c.loop-voter.left inside so.0 so.1,
      rest_next snapshot voters c.requires.distinct i h c.loop-voter.left inside so.0 so.1 c.loop-voter.rest so.2,
      sum_next snapshot voters c.requires.distinct i h c.loop-voter.left inside so.0 so.1 c.loop-voter.rest so.3,
      length-set c.loop-voter.left (get_or voters i 0) _ ∙ so.4,
    )

pub returns-clause-offers : goal.returns-clause-offers
returns-clause-offers c = λ voter there.
    c.loop-voter.invariant.0 voter
    (subst (λ (vs : List ℕ). In vs voter) (sym (take_all c.loop-voter.voter-index c.args.voters.now (omega (arith, c.loop-voter-test.false)))) (from_has c.args.voters.now voter there))
