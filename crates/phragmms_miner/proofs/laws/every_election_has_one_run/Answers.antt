use Rattle.phragmms_miner.proofs.OneLemmas.{one_run}
use Rattle.phragmms_miner.proofs.AnyLemmas.{any_run}
use Rattle.phragmms_miner.proofs.laws.every_election_has_one_run.Goals as goal

pub returns-clause-one : goal.returns-clause-one
returns-clause-one c = one_run

pub returns-clause-any : goal.returns-clause-any
returns-clause-any c = any_run
