-- Chains whose state can be written down, and gone on from.
use Rattle.std.specs.Prelude.{◌≡◌, None}
use Rattle.block_wire.specs.declared.block.Block.{Block}
use Rattle.block_wire.specs.declared.genesis.Genesis.{Genesis}
use Rattle.block_wire.specs.Calls.{block_form}
use Rattle.block_wire.specs.Genesis.{genesis_form}
use Rattle.state_rules.specs.declared.state.State.{State}
use Rattle.state_checkpoint.specs.Layout.{state_form}
use Rattle.npos_runtime.specs.declared.chain.Chain.{Chain}
use Rattle.npos_runtime.specs.Genesis.{genesis_fault, genesis_chain}
use Rattle.npos_runtime.specs.Kept.State.{kept, IsTold}
use Rattle.npos_runtime.specs.Kept.Chain.{chain_of}
use Rattle.npos_runtime.specs.Live.{IsReady}
use Rattle.npos_runtime.specs.Kept.Restoring.{state_fault}
use Rattle.npos_runtime.specs.Kept.Sound.{IsSoundChain}
use Rattle.npos_runtime.specs.Kept.Soundness.{after_block}

-- Between two blocks: the chain is sound, and the state that it keeps tells all of it and fits its layout.
pub record IsSavable (chain : Chain) : Type 0 where
  pub ready : IsReady chain
  pub told : IsTold chain
  pub sound : IsSoundChain chain
  pub fits : state_form.in_range (kept chain)

-- so is the chain of a genesis without a fault
abbrev pub SavableStartLaw : Type 0
SavableStartLaw = (genesis : Genesis) → genesis_form.in_range genesis → genesis_fault genesis ≡ None
    → IsSavable (genesis_chain genesis)

-- and it stays so, block by block
abbrev pub SavableStepLaw : Type 0
SavableStepLaw = (chain : Chain) (block : Block) → IsSavable chain → block_form.in_range block
    → block.number ≡ chain.due → IsSavable (after_block chain block)

-- the state that such a chain keeps has no fault
abbrev pub SavedStateLaw : Type 0
SavedStateLaw = (chain : Chain) → IsSavable chain → state_fault (kept chain) ≡ None

-- where a state has no fault, a chain goes on from it that keeps this very state
abbrev pub RestoredStateLaw : Type 0
RestoredStateLaw = (state : State) → state_form.in_range state → state_fault state ≡ None
    → IsSavable (chain_of state) × (kept (chain_of state) ≡ state)
