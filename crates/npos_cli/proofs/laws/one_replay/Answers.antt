use Rattle.npos_cli.specs.Chain.{npos_machine}
use Rattle.npos_cli.specs.Checkpoints.{checkpoint_machine, resume_machine}
use Rattle.npos_cli.specs.Pools.{pool_machine}
use Rattle.run_edges.proofs.ReplayLaws.{one_replay}
use Rattle.state_checkpoint.specs.LayoutLaws.{state_laws}
use Rattle.npos_cli.proofs.ChainLaws.{genesis_laws, turn_laws}
use Rattle.npos_cli.proofs.PoolLaws.{pool_laws, pool_turn_laws}
use Rattle.npos_cli.proofs.laws.one_replay.Goals as goal

pub returns-clause-chain : goal.returns-clause-chain
returns-clause-chain c = one_replay npos_machine genesis_laws turn_laws

pub returns-clause-checkpoint : goal.returns-clause-checkpoint
returns-clause-checkpoint c = one_replay checkpoint_machine genesis_laws turn_laws

pub returns-clause-resumed : goal.returns-clause-resumed
returns-clause-resumed c = one_replay resume_machine state_laws turn_laws

pub returns-clause-pool : goal.returns-clause-pool
returns-clause-pool c = one_replay pool_machine pool_laws pool_turn_laws
