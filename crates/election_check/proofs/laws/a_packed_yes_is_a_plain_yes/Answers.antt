use Rattle.election_check.proofs.PackedLemmas.{accepted}
use Rattle.election_check.proofs.laws.a_packed_yes_is_a_plain_yes.Goals as goal

pub returns : goal.returns
returns c = accepted
