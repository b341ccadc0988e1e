use Rattle.npos_cli.specs.Chain.{npos_machine}
use Rattle.run_edges.proofs.WholeLaws.{whole_grows}
use Rattle.npos_cli.proofs.ChainLaws.{genesis_laws, turn_laws}
use Rattle.npos_cli.proofs.laws.whole_text_grows.Goals as goal

pub returns : goal.returns
returns c = whole_grows npos_machine genesis_laws turn_laws
