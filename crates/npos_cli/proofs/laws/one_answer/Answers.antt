use Rattle.npos_cli.proofs.RunLaws.{one_owed, any_owed}
use Rattle.npos_cli.proofs.laws.one_answer.Goals as goal

pub returns-clause-one : goal.returns-clause-one
returns-clause-one c = one_owed

pub returns-clause-any : goal.returns-clause-any
returns-clause-any c = any_owed
