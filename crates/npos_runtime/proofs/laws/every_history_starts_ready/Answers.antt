use Rattle.npos_runtime.proofs.Rules.BeginLemmas.{start_law}
use Rattle.npos_runtime.proofs.laws.every_history_starts_ready.Goals as goal

pub returns : goal.returns
returns c = start_law
