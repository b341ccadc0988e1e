use Rattle.std.proofs.Common.{◌∙◌}
use Rattle.seat_race.proofs.PaidLemmas.{left_is_prescore}
use Rattle.phragmms_miner.proofs.pass.fill_prescores.Goals as goal

pub returns : goal.returns
returns c = λ target h. c.fill_sums.ensures target h
    ∙ left_is_prescore c.args.price c.args.snapshot.now c.args.edges.now c.fill_slacks.new.left c.fill_slacks.ensures target
