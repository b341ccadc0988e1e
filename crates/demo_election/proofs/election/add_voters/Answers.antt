use Rattle.std.proofs.Common.{arith, ◌≡◌, ◌∙◌, ap}
use Rattle.demo_election.specs.Generated.{targets_of, voters_of}
use Rattle.demo_election.proofs.DraftLemmas.{voters_begun, voters_step, states_step}
use Rattle.demo_election.proofs.election.add_voters.Goals as goal

pub add_voter-requires-clause-begun : goal.add_voter-requires-clause-begun
add_voter-requires-clause-begun c =
    voters_begun c.args.seed c.args.targets c.loop-place.place c.loop-place.parts c.requires.some c.requires.few c.loop-place.invariant.0

pub loop-place-preserved : goal.loop-place-preserved
loop-place-preserved c = (
  voters_step c.args.seed c.args.targets c.loop-place.place c.loop-place.state c.loop-place.parts c.add_voter.new.parts
      c.loop-place.invariant.0 c.loop-place.invariant.1 c.in_ok-add_voter.ensures.voter,
  states_step c.args.seed c.loop-place.place c.loop-place.state c.add_voter.new.state c.loop-place.invariant.1 c.in_ok-add_voter.ensures.state,
)

pub returns : goal.returns
returns c =
    let all : c.loop-place.place ≡ c.args.count = omega (arith, c.loop-place-test.false, c.loop-place.auto.place-end) in
    c.loop-place.invariant.0 ∙ ap (λ n. record { targets = targets_of c.args.targets; voters = voters_of c.args.seed c.args.targets n }) all
