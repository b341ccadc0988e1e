-- A runtime, and what the taking of a block makes of it.
use Rattle.std.specs.Prelude.{◌≡◌, ◌≢◌, Bool, true, false, List}
use Rattle.block_wire.specs.declared.block.Block.{Block}
use Rattle.npos_runtime.specs.declared.chain.Chain.{Chain}
use Rattle.block_receipts.specs.declared.line.Line.{Line}
use Rattle.npos_runtime.specs.declared.runtime.BlockFault.{BlockFault}
use Rattle.npos_runtime.specs.declared.runtime.BlockFault.TheVariants.{Spent, WrongNumber, NoMemory}
use Rattle.npos_runtime.specs.Step.{step}

-- the state of the chain, and whether the runtime is spent: then nothing is said of the state but its books
pub record Life : Type 0 where
  pub state : Chain
  pub spent : Bool

-- the block was taken: its number was due, and lines and state are those of its step
pub record AppliesWell (old new : Life) (block : Block) (lines : List Line) : Type 0 where
  pub unspent : old.spent ≡ false
  pub numbered : block.number ≡ old.state.due
  pub lines_are : lines ≡ (step old.state block).lines
  pub new_is : new ≡ record { state = (step old.state block).state; spent = false }

-- the block was not taken, for this reason
abbrev pub HasFault : Life → Life → Block → BlockFault → Type 0
HasFault old new block Spent = (old.spent ≡ true) × (new ≡ old)
HasFault old new block (WrongNumber due found) =
    (old.spent ≡ false) × (due ≡ old.state.due) × (found ≡ block.number) × (found ≢ due) × (new ≡ old)
HasFault old new block NoMemory = (old.spent ≡ false) × (block.number ≡ old.state.due) × (new.spent ≡ true)
