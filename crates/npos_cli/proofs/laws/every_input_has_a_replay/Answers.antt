use Rattle.npos_cli.specs.Chain.{npos_machine}
use Rattle.npos_cli.specs.Checkpoints.{checkpoint_machine, resume_machine}
use Rattle.npos_cli.specs.Pools.{pool_machine}
use Rattle.run_edges.proofs.ReplayLaws.{any_replay}
use Rattle.state_checkpoint.specs.LayoutLaws.{state_laws}
use Rattle.npos_cli.proofs.ChainLaws.{genesis_laws, turn_laws}
use Rattle.npos_cli.proofs.PoolLaws.{pool_laws, pool_turn_laws}
use Rattle.npos_cli.proofs.laws.every_input_has_a_replay.Goals as goal

pub returns-clause-chain : goal.returns-clause-chain
returns-clause-chain c = λ bytes are_bytes. let found = any_replay npos_machine genesis_laws turn_laws bytes are_bytes in (found.outcome, found.is_replay)

pub returns-clause-checkpoint : goal.returns-clause-checkpoint
returns-clause-checkpoint c = λ bytes are_bytes. let found = any_replay checkpoint_machine genesis_laws turn_laws bytes are_bytes in (found.outcome, found.is_replay)

pub returns-clause-resumed : goal.returns-clause-resumed
returns-clause-resumed c = λ bytes are_bytes. let found = any_replay resume_machine state_laws turn_laws bytes are_bytes in (found.outcome, found.is_replay)

pub returns-clause-pool : goal.returns-clause-pool
returns-clause-pool c = λ bytes are_bytes. let found = any_replay pool_machine pool_laws pool_turn_laws bytes are_bytes in (found.outcome, found.is_replay)
