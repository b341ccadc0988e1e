-- Blocks that follow a chain.
use Rattle.std.specs.Prelude.{◌≡◌, ◌+◌, ◌≤◌, ◌^◌, List, length, None}
use Rattle.block_wire.specs.declared.block.Block.{Block}
use Rattle.block_wire.specs.declared.genesis.Genesis.{Genesis}
use Rattle.npos_runtime.specs.declared.chain.Chain.{Chain}
use Rattle.npos_runtime.specs.Genesis.{genesis_fault, genesis_chain}
use Rattle.npos_runtime.specs.Live.{IsBetweenBlocks}

-- The chain stands between two blocks, and each of these has a number. The laws over blocks hold from
-- any such chain on, whether a genesis began it or a checkpoint gave it.
pub record CanTake (chain : Chain) (blocks : List Block) : Type 0 where
  pub between : IsBetweenBlocks chain
  pub fit : chain.due + length blocks ≤ 2 ^ 32

-- a genesis without a fault, and so few blocks behind it that each has a number
pub record IsHistory (genesis : Genesis) (blocks : List Block) : Type 0 where
  pub faultless : genesis_fault genesis ≡ None
  pub fit : 1 + length blocks ≤ 2 ^ 32

-- the chain of a genesis can take its history
abbrev pub StartLaw : Type 0
StartLaw = (genesis : Genesis) (blocks : List Block)
    → IsHistory genesis blocks → CanTake (genesis_chain genesis) blocks
