use Rattle.std.proofs.Common.{arith, ◌-◌, cond, ap, ◌∙◌}
use Rattle.election_snapshot.specs.Snapshot.{has}
use Rattle.seat_race.specs.Tables.{says}
use Rattle.quota_fill.proofs.RoundLemmas.{backing_is_enough, backings_lowered}
use Rattle.quota_fill.proofs.drawing.draw_from.Goals as goal

pub lower_at-requires-clause-enough : goal.lower_at-requires-clause-enough
lower_at-requires-clause-enough c = rw c.votes.ensures.votes
    (backing_is_enough c.args.snapshot.now c.args.left.now c.args.voter c.args.amount c.requires.tables.left_size c.requires.enough c.requires.voter
    c.args.backings.now c.requires.tables.sums c.votes.ensures.sound)

pub returns-then-amount-gt0-clause-backings : goal.returns-then-amount-gt0-clause-backings
returns-then-amount-gt0-clause-backings c =
    backings_lowered c.args.snapshot.now c.args.left.now c.args.voter c.args.amount c.requires.tables.left_size c.requires.enough c.requires.voter
    c.args.backings.now c.requires.tables.sums c.votes.ensures.sound c.lower_at.new.table
    (λ target h. c.lower_at.ensures target (omega (arith, h, c.requires.tables.backings_size))
    ∙ ap (λ votes. cond (has votes target) (says c.args.backings.now target - c.args.amount) (says c.args.backings.now target)) c.votes.ensures.votes)
