use Rattle.std.proofs.Common.{arith, ◌≡◌, ◌≤◌, length, get_or, sum_by, ap, ◌∙◌}
use Rattle.election_snapshot.specs.Snapshot.{stake_of}
use Rattle.weight_book.specs.Passing.{slack, nominators}
use Rattle.weight_book.proofs.SumLemmas.{sum_le}
use Rattle.seat_race.specs.Tables.{says}
use Rattle.seat_race.proofs.NominatorLemmas.{stakes_to_fit}
use Rattle.seat_race.proofs.PaidLemmas.{left_is_prescore}
use Rattle.phragmms_miner.proofs.FewLemmas.{nominators_within}
use Rattle.phragmms_miner.proofs.some.fill_some.Goals as goal

pub add_up-requires-clause-voters : goal.add_up-requires-clause-voters
add_up-requires-clause-voters c k d h =
    let snapshot = c.args.snapshot.now in
    let target = get_or c.args.alive.now k d in
    let size : length c.fill_slacks.new.left ≡ length snapshot.voters = c.fill_slacks.auto.left ∙ c.requires.stakes in
    rw (c.requires.nominators target (c.requires.alive k d h), size) (nominators_within snapshot target)

pub add_up-requires-clause-fits : goal.add_up-requires-clause-fits
add_up-requires-clause-fits c k d h =
    let snapshot = c.args.snapshot.now in
    let target = get_or c.args.alive.now k d in
    let told = left_is_prescore c.args.price snapshot c.args.edges.now c.fill_slacks.new.left c.fill_slacks.ensures target in
    let less : sum_by (slack c.args.price snapshot c.args.edges.now) (nominators snapshot target) ≤ sum_by (stake_of snapshot) (nominators snapshot target)
    = sum_le (slack c.args.price snapshot c.args.edges.now) (stake_of snapshot) (nominators snapshot target) (λ i e l. omega arith) in
    rw (c.requires.nominators target (c.requires.alive k d h)) (omega (arith, told, less, stakes_to_fit snapshot target, c.requires.fits))

pub returns : goal.returns
returns c k d h =
    let snapshot = c.args.snapshot.now in
    let target = get_or c.args.alive.now k d in
    c.add_up.ensures k d h
    ∙ ap (sum_by (says c.fill_slacks.new.left)) (c.requires.nominators target (c.requires.alive k d h))
    ∙ left_is_prescore c.args.price snapshot c.args.edges.now c.fill_slacks.new.left c.fill_slacks.ensures target
