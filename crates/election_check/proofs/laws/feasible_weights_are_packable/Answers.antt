use Rattle.election_check.proofs.PackingLemmas.{packable}
use Rattle.election_check.proofs.laws.feasible_weights_are_packable.Goals as goal

pub returns : goal.returns
returns c = packable
