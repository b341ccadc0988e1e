use Rattle.std.proofs.Common.{ap}
use Rattle.election_check.specs.First.{or_yes}
use Rattle.election_check.proofs.FaultLemmas.{plain_yes}
use Rattle.election_check.proofs.PassingLemmas.{passes, no_plain_fault}
use Rattle.election_check.proofs.laws.a_plain_yes_is_passing.Goals as goal

pub returns : goal.returns
returns c = λ snapshot weights. (λ e. passes snapshot weights (plain_yes snapshot weights e), λ passing. ap or_yes (no_plain_fault snapshot weights passing))
