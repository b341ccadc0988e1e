use Rattle.std.proofs.Common.{subst, sym, ap, ◌∙◌}
use Rattle.weight_book.specs.Passing.{Passes}
use Rattle.weight_book.specs.Weights.{Weights}
use Rattle.quota_fill.specs.Filled.{filled}
use Rattle.round_decision.specs.Decision.{rising}
use Rattle.round_decision.proofs.decision.seat_fill.Goals as goal

-- the fill passes
pub seat-requires : goal.seat-requires
seat-requires c =
    subst (λ (weights : Weights). Passes c.args.snapshot weights) (sym c.in_ok-weights.ensures.filled)
    (c.every_fill_passes.ensures c.args.snapshot c.seats-seats.ensures.well_formed)

pub returns-clause-weights : goal.returns-clause-weights
returns-clause-weights c =
    c.seat.ensures.weights ∙ ap (rising c.args.snapshot) c.in_ok-weights.ensures.filled
