-- The two spellings of a stream keep the laws of SCALE forms, and what is in range meets what the chain asks for.
use Rattle.std.proofs.Common.{◌≤◌, ◌<◌, ◌^◌, length, arith}
use Rattle.scale_wire.specs.Form.{IsWire}
use Rattle.scale_wire.specs.FormLaws.{optional_laws}
use Rattle.scale_wire.specs.PartLaws.{tag_laws}
use Rattle.block_wire.specs.declared.block.Block.{Block}
use Rattle.block_wire.specs.declared.genesis.Genesis.{Genesis}
use Rattle.block_wire.specs.declared.genesis.Genesis.TheVariants.{Plain, Full, Deferred}
use Rattle.block_wire.specs.Genesis.{genesis_form}
use Rattle.block_wire.specs.GenesisLaws as of_genesis
use Rattle.block_wire.specs.Calls.{block_form}
use Rattle.block_wire.specs.CallLaws.{block_laws}
use Rattle.npos_runtime.specs.Genesis.{endowments_of, thresholds_of}
use Rattle.run_edges.specs.Replay.{turn}
use Rattle.npos_cli.specs.Chain.{npos_machine}

pub genesis_laws : IsWire npos_machine.genesis
genesis_laws = of_genesis.genesis_laws

pub turn_laws : IsWire (turn npos_machine)
turn_laws = optional_laws block_form block_laws (tag_laws 2)

pub few_endowments : (genesis : Genesis) → genesis_form.in_range genesis → length (endowments_of genesis) ≤ 65536
few_endowments (Plain endowments) range = range.0
few_endowments (Full endowments params) range = range.0.0
few_endowments (Deferred endowments params defer_eras) range = range.0.0

pub few_thresholds : (genesis : Genesis) → genesis_form.in_range genesis → length (thresholds_of genesis) ≤ 200
few_thresholds (Plain endowments) range = omega arith
few_thresholds (Full endowments params) range = range.1.1.0
few_thresholds (Deferred endowments params defer_eras) range = range.1.1.0

pub few_calls : (block : Block) → block_form.in_range block → length block.calls < 2 ^ 32
few_calls block range = omega (arith, range.1.0)
