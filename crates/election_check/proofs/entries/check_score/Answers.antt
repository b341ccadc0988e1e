use Rattle.weight_book.proofs.StakeLemmas.{amounts_within}
use Rattle.election_check.proofs.entries.check_score.Goals as goal
use Rattle.std.proofs.Common.{arith}

pub score-score-requires-clause-fits : goal.score-score-requires-clause-fits
score-score-requires-clause-fits c =
    omega (arith, amounts_within c.args.snapshot.now c.args.weights.now.plain c.requires, c.seats-seats.ensures.well_formed.voters.total_fits)
