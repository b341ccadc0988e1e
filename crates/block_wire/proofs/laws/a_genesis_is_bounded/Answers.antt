use Rattle.block_wire.specs.GenesisLaws.{genesis_laws}
use Rattle.block_wire.proofs.laws.a_genesis_is_bounded.Goals as goal

pub returns-clause-keeps : goal.returns-clause-keeps
returns-clause-keeps c = genesis_laws
