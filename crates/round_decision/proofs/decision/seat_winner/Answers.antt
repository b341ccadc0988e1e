use Rattle.std.proofs.Common.{◌∙◌, ap, sym, subst}
use Rattle.election_snapshot.specs.Snapshot.{Snapshot}
use Rattle.weight_book.specs.Passing.{Passes}
use Rattle.election_check.specs.Plain.{verdict_plain}
use Rattle.round_decision.proofs.VerdictLemmas.{winner_passes}
use Rattle.round_decision.proofs.decision.seat_winner.Goals as goal

pub seat-requires : goal.seat-requires
seat-requires c =
    let passes = (c.a_plain_yes_is_passing.ensures c.args.checker c.args.weights.plain).0
    (ap (verdict_plain c.args.checker) c.requires.weights
    ∙ winner_passes c.a_packed_yes_is_a_plain_yes.ensures c.args.checker c.args.winner.now c.requires.valid) in
    subst (λ (s : Snapshot). Passes s c.args.weights.plain) (sym c.into_snapshot.ensures) passes
