use Rattle.npos_cli.specs.Chain.{npos_machine}
use Rattle.run_edges.proofs.FaultLaws.{faults_stand}
use Rattle.npos_cli.proofs.ChainLaws.{genesis_laws, turn_laws}
use Rattle.npos_cli.proofs.laws.faults_stand.Goals as goal

pub returns : goal.returns
returns c = faults_stand npos_machine genesis_laws turn_laws
