use Rattle.std.proofs.Common.{rules, ◌≡◌, length, ap, sym, ◌∙◌}
use Rattle.election_check.specs.First.{answer_of}
use Rattle.election_check.specs.Kept.{AreMarks, reached}
use Rattle.election_snapshot.specs.Snapshot.{threshold}
use Rattle.seat_race.proofs.PaidLemmas.{left_is_prescore}
use Rattle.election_check.proofs.SpendLemmas.{reached_is_outweighed}
use Rattle.election_check.proofs.prescores.check_outside.Goals as goal

pub returns : goal.returns
returns c =
    let snapshot = c.args.snapshot.now in
    let plain = c.args.weights.now.plain in
    let marked : AreMarks c.mark.new.is_member c.args.weights.now.plain.committee = rw (sym c.committee.ensures) c.mark.ensures in
    let size : length c.fill_sums.new.sums ≡ length c.args.snapshot.now.targets = search rules in
    c.check_reached.ensures
    ∙ ap (λ price. answer_of (reached price c.mark.new.is_member c.fill_sums.new.sums)) c.threshold-seat_price.ensures.threshold
    ∙ ap answer_of (reached_is_outweighed snapshot plain c.mark.new.is_member c.fill_sums.new.sums marked
    (λ target h. c.fill_sums.ensures target h ∙ left_is_prescore (threshold snapshot) snapshot plain.edges c.fill_slacks.new.left c.fill_slacks.ensures target) size)
