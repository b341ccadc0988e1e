use Rattle.std.proofs.Common.{arith, ◌≡◌, ◌<◌, [], length, get_or, sum_by, ap, sym, ◌∙◌}
use Rattle.std.proofs.lemmas.List.{length-set}
use Rattle.weight_book.specs.Passing.{slack, prescore, nominators}
use Rattle.seat_race.proofs.NominatorLemmas.{stakes_to_fit}
use Rattle.phragmms_miner.proofs.FewLemmas.{nominators_within, told_next}
use Rattle.phragmms_miner.proofs.few.fill_few.Goals as goal

pub slack_sum-requires-clause-voters : goal.slack_sum-requires-clause-voters
slack_sum-requires-clause-voters c =
    let snapshot = c.args.snapshot.now in
    let place = c.from-place.result in
    let within : place < length snapshot.targets = rw c.from-place.ensures (c.requires.alive c.loop-target.target-index 0 c.loop-target-test.true) in
    let are : c.of-voters.result.now ≡ nominators snapshot place = c.of-voters.ensures
    ∙ ap (λ n. get_or c.args.nominators.now n []) (sym c.from-place.ensures) ∙ c.requires.nominators place within in
    rw are (nominators_within snapshot place)

pub slack_sum-requires-clause-fits : goal.slack_sum-requires-clause-fits
slack_sum-requires-clause-fits c =
    let snapshot = c.args.snapshot.now in
    let place = c.from-place.result in
    let within : place < length snapshot.targets = rw c.from-place.ensures (c.requires.alive c.loop-target.target-index 0 c.loop-target-test.true) in
    let are : c.of-voters.result.now ≡ nominators snapshot place = c.of-voters.ensures
    ∙ ap (λ n. get_or c.args.nominators.now n []) (sym c.from-place.ensures) ∙ c.requires.nominators place within in
    rw are (omega (arith, stakes_to_fit snapshot place, c.requires.fits))

pub loop-target-preserved : goal.loop-target-preserved
loop-target-preserved c =
    let snapshot = c.args.snapshot.now in
    let place = c.from-place.result in
    let within : place < length snapshot.targets = rw c.from-place.ensures (c.requires.alive c.loop-target.target-index 0 c.loop-target-test.true) in
    let are : c.of-voters.result.now ≡ nominators snapshot place = c.of-voters.ensures
    ∙ ap (λ n. get_or c.args.nominators.now n []) (sym c.from-place.ensures) ∙ c.requires.nominators place within in
    let told : c.slack_sum.result ≡ prescore c.args.price snapshot c.args.edges.now place = c.slack_sum.ensures
    ∙ ap (sum_by (slack c.args.price snapshot c.args.edges.now)) are in (
      told_next (prescore c.args.price snapshot c.args.edges.now) c.args.alive.now c.loop-target.target-index c.loop-target.prescores c.loop-target.invariant.0
          c.loop-target-test.true place c.from-place.ensures (omega (arith, within, c.loop-target.invariant.1)) c.slack_sum.result told,
      length-set c.loop-target.prescores place c.slack_sum.result ∙ c.loop-target.invariant.1,
    )
