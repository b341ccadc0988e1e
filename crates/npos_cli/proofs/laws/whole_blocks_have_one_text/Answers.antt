use Rattle.npos_cli.specs.Chain.{npos_machine}
use Rattle.run_edges.proofs.WholeLaws.{one_whole, any_whole, replay_begins}
use Rattle.npos_cli.proofs.ChainLaws.{genesis_laws, turn_laws}
use Rattle.npos_cli.proofs.laws.whole_blocks_have_one_text.Goals as goal

pub returns-clause-one : goal.returns-clause-one
returns-clause-one c = one_whole npos_machine genesis_laws turn_laws

pub returns-clause-any : goal.returns-clause-any
returns-clause-any c = any_whole npos_machine genesis_laws turn_laws

pub returns-clause-front : goal.returns-clause-front
returns-clause-front c = replay_begins npos_machine genesis_laws turn_laws
