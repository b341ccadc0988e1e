use Rattle.npos_runtime.proofs.Histories.OnceLemmas.{once_law}
use Rattle.npos_runtime.proofs.laws.each_round_is_decided_once.Goals as goal

pub returns : goal.returns
returns c = once_law
