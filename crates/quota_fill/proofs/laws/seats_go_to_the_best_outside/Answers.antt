use Rattle.quota_fill.proofs.PickLemmas.{seats_are_picks}
use Rattle.quota_fill.proofs.laws.seats_go_to_the_best_outside.Goals as goal

pub returns : goal.returns
returns c = seats_are_picks
