use Rattle.npos_runtime.proofs.Histories.LawLemmas.{held_after}
use Rattle.npos_runtime.proofs.laws.deposits_are_held.Goals as goal

pub returns : goal.returns
returns c = held_after
