-- Soundness, part by part: what starts sound stays sound.
use Rattle.std.specs.Prelude.{◌≡◌, ℕ, ◌+◌, List, [], ◌∷◌, None}
use Rattle.block_wire.specs.declared.genesis.Genesis.{Genesis}
use Rattle.block_wire.specs.declared.block.Block.{Block}
use Rattle.block_wire.specs.Genesis.{genesis_form}
use Rattle.block_wire.specs.Calls.{block_form}
use Rattle.chain_params.specs.Rules.{bonding_eras_of}
use Rattle.npos_runtime.specs.declared.chain.Chain.{Chain}
use Rattle.npos_runtime.specs.Genesis.{genesis_fault, genesis_chain}
use Rattle.npos_runtime.specs.History.{IsHistory}
use Rattle.npos_runtime.specs.Live.{IsReady}
use Rattle.state_rules.specs.Causes.{first_cause, slash_cause}
use Rattle.npos_runtime.specs.Kept.State.{kept, IsTold}
use Rattle.npos_runtime.specs.Kept.Sound.{IsSoundChain, AreTimely, AreSoundRoles, AreSoundEras, IsSoundOpen, AreSoundSubmissions, IsSoundWaiting, AreSoundSlashes}
use Rattle.npos_runtime.specs.Step.{step, after_blocks}

-- a chain that can take a block, and the block, which is the next one
pub record CanStep (chain : Chain) (block : Block) : Type 0 where
  pub ready : IsReady chain
  pub told : IsTold chain
  pub sound : IsSoundChain chain
  pub in_range : block_form.in_range block
  pub due : block.number ≡ chain.due

-- what is left of a chain when it took the block
abbrev pub after_block : Chain → Block → Chain
after_block chain block = (step chain block).state

abbrev pub BooksStaySound : Type 0
BooksStaySound = (chain : Chain) (block : Block) → CanStep chain block
    → AreTimely ((after_block chain block).eras.current + bonding_eras_of (after_block chain block).params)
    (after_block chain block).book

abbrev pub RolesStaySound : Type 0
RolesStaySound = (chain : Chain) (block : Block) → CanStep chain block → AreSoundRoles (after_block chain block)

abbrev pub ErasStaySound : Type 0
ErasStaySound = (chain : Chain) (block : Block) → CanStep chain block → AreSoundEras (after_block chain block)

abbrev pub RoundStaysSound : Type 0
RoundStaysSound = (chain : Chain) (block : Block) → CanStep chain block
    → IsSoundOpen (after_block chain block).book (after_block chain block).round

abbrev pub SubmissionsStaySound : Type 0
SubmissionsStaySound = (chain : Chain) (block : Block) → CanStep chain block
    → AreSoundSubmissions (after_block chain block)

abbrev pub WaitingStaysSound : Type 0
WaitingStaysSound = (chain : Chain) (block : Block) → CanStep chain block
    → IsSoundWaiting (after_block chain block) (after_block chain block).waiting

abbrev pub SlashesStaySound : Type 0
SlashesStaySound = (chain : Chain) (block : Block) → CanStep chain block
    → AreSoundSlashes (after_block chain block)

-- the chain of a genesis without a fault is sound
abbrev pub StartsSound : Type 0
StartsSound = (genesis : Genesis) → genesis_form.in_range genesis → genesis_fault genesis ≡ None
    → IsSoundChain (genesis_chain genesis)

-- a block keeps a chain sound
abbrev pub KeepsSoundLaw : Type 0
KeepsSoundLaw = (chain : Chain) (block : Block) → CanStep chain block → IsSoundChain (after_block chain block)

-- the blocks are in range, and are numbered from the due one on
abbrev pub AreNext : ℕ → List Block → Type 0
AreNext due [] = Unit {0}
AreNext due (block ∷ more) =
    block_form.in_range block × (block.number ≡ due) × AreNext (due + 1) more

-- so does every list of blocks that follows a genesis without a fault
abbrev pub StaysSoundLaw : Type 0
StaysSoundLaw = (genesis : Genesis) (blocks : List Block) → genesis_form.in_range genesis → IsHistory genesis blocks
    → AreNext 1 blocks → IsSoundChain (after_blocks (genesis_chain genesis) blocks)

-- what a sound chain keeps is the state of a chain: no cause stands against it
abbrev pub NoCauseLaw : Type 0
NoCauseLaw = (chain : Chain) → IsReady chain → IsTold chain → IsSoundChain chain
    → (first_cause (kept chain) ≡ None) × (slash_cause (kept chain) ≡ None)
