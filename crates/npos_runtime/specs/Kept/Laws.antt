-- Chains that are alike go on alike, and so do chains that keep the same state; a state is led back to
-- a chain that keeps it.
use Rattle.std.specs.Prelude.{◌≡◌, List, ◌++◌}
use Rattle.block_wire.specs.declared.block.Block.{Block}
use Rattle.block_wire.specs.declared.genesis.Genesis.{Genesis}
use Rattle.state_rules.specs.declared.state.State.{State}
use Rattle.npos_runtime.specs.declared.chain.Chain.{Chain}
use Rattle.npos_runtime.specs.Genesis.{genesis_chain}
use Rattle.npos_runtime.specs.History.{CanTake, IsHistory}
use Rattle.npos_runtime.specs.Step.{step, after_blocks, told_by, seated_by}
use Rattle.npos_runtime.specs.Kept.Parts.{AreAlike, GoAlike}
use Rattle.npos_runtime.specs.Kept.State.{kept, IsTold}
use Rattle.npos_runtime.specs.Kept.Chain.{chain_of, IsInForm}

-- a block makes the same of chains that are alike
abbrev pub AlikeStepLaw : Type 0
AlikeStepLaw =
    (one other : Chain) (block : Block) → AreAlike one other → GoAlike (step one block) (step other block)

-- over all of these blocks two chains tell the same lines and seat the same committees
pub record TellAlike (one other : Chain) (blocks : List Block) : Type 0 where
  pub told : told_by one blocks ≡ told_by other blocks
  pub seated : seated_by one blocks ≡ seated_by other blocks

abbrev pub AlikeLaw : Type 0
AlikeLaw = (one other : Chain) (blocks : List Block) → AreAlike one other
    → TellAlike one other blocks × AreAlike (after_blocks one blocks) (after_blocks other blocks)

-- the block makes equal lines and equal elections of two chains, and they keep the same state again
pub record KeepAlike (one other : Chain) (block : Block) : Type 0 where
  pub told : (step one block).lines ≡ (step other block).lines
  pub seated : (step one block).seated ≡ (step other block).seated
  pub kept : kept (step one block).state ≡ kept (step other block).state

abbrev pub SameKeptLaw : Type 0
SameKeptLaw = (one other : Chain) (block : Block) → IsTold one → IsTold other
    → kept one ≡ kept other → KeepAlike one other block

-- and what they keep tells the rest of both after any blocks that the one can take
abbrev pub ToldLaw : Type 0
ToldLaw = (one other : Chain) (blocks : List Block) → CanTake one blocks → IsTold one → IsTold other
    → kept one ≡ kept other → IsTold (after_blocks one blocks) × IsTold (after_blocks other blocks)

-- What the blocks tell and seat from the genesis on is what the first of them do, and then what the others
-- do from this chain on.
pub record GoesOn (genesis : Genesis) (first more : List Block) (other : Chain) : Type 0 where
  pub told : told_by (genesis_chain genesis) (first ++ more)
      ≡ told_by (genesis_chain genesis) first ++ told_by other more
  pub seated : seated_by (genesis_chain genesis) (first ++ more)
      ≡ seated_by (genesis_chain genesis) first ++ seated_by other more

-- whoever keeps the state that the first blocks left goes on from there
abbrev pub ResumeLaw : Type 0
ResumeLaw = (genesis : Genesis) (first more : List Block) (other : Chain) → IsHistory genesis first
    → IsTold other → kept other ≡ kept (after_blocks (genesis_chain genesis) first)
    → GoesOn genesis first more other

-- a state in form is the one that its chain keeps
abbrev pub RestoreLaw : Type 0
RestoreLaw = (state : State) → IsInForm state → (kept (chain_of state) ≡ state) × IsTold (chain_of state)

-- the state that the first blocks left is in form, and its chain goes on
abbrev pub CheckpointLaw : Type 0
CheckpointLaw = (genesis : Genesis) (first more : List Block) → IsHistory genesis first
    → IsInForm (kept (after_blocks (genesis_chain genesis) first))
    × GoesOn genesis first more (chain_of (kept (after_blocks (genesis_chain genesis) first)))
