use Rattle.std.proofs.Common.{ap}
use Rattle.election_check.specs.First.{or_yes}
use Rattle.election_check.proofs.PackingLemmas.{packed_expands}
use Rattle.election_check.proofs.laws.packed_weights_expand.Goals as goal

pub returns : goal.returns
returns c = λ snapshot weights solution formed feasible is. ap or_yes (packed_expands snapshot weights formed feasible solution is)
