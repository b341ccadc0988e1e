-- What the books count is what was told: what came into being, and what is gone.
use Rattle.std.specs.Prelude.{◌≡◌, ◌+◌, List}
use Rattle.block_wire.specs.declared.block.Block.{Block}
use Rattle.block_wire.specs.declared.genesis.Genesis.{Genesis}
use Rattle.stake_ledger.specs.Rows.{worth}
use Rattle.stake_ledger.specs.Ledger.{Ledger, IsBalanced, total}
use Rattle.block_receipts.specs.declared.line.Line.{Line}
use Rattle.block_receipts.specs.Sums.{told_minted, told_burned}
use Rattle.npos_runtime.specs.declared.chain.Chain.{Chain}
use Rattle.npos_runtime.specs.Genesis.{endowments_of, endowment_sum, genesis_chain}
use Rattle.npos_runtime.specs.History.{IsHistory}
use Rattle.npos_runtime.specs.Step.{after_blocks, told_by}

-- from books to books as these lines tell
pub record AddsUp (old : Ledger) (told : List Line) (new : Ledger) : Type 0 where
  pub genesis : new.genesis ≡ old.genesis
  pub minted : new.minted ≡ old.minted + told_minted told
  pub burned : new.burned ≡ old.burned + told_burned told

-- from any chain on
abbrev pub SumsOnLaw : Type 0
SumsOnLaw = (chain : Chain) (blocks : List Block)
    → AddsUp chain.book (told_by chain blocks) (after_blocks chain blocks).book

-- After these blocks the books balance, and count what the genesis gave and what was told: so all
-- that the accounts hold, with what was burned, is what was endowed and minted.
pub record HaveSums (genesis : Genesis) (blocks : List Block) : Type 0 where
  pub balanced : IsBalanced (after_blocks (genesis_chain genesis) blocks).book
  pub endowed : (after_blocks (genesis_chain genesis) blocks).book.genesis
      ≡ endowment_sum (endowments_of genesis)
  pub minted : (after_blocks (genesis_chain genesis) blocks).book.minted
      ≡ told_minted (told_by (genesis_chain genesis) blocks)
  pub burned : (after_blocks (genesis_chain genesis) blocks).book.burned
      ≡ told_burned (told_by (genesis_chain genesis) blocks)
  pub holdings : total worth (after_blocks (genesis_chain genesis) blocks).book
      + told_burned (told_by (genesis_chain genesis) blocks)
      ≡ endowment_sum (endowments_of genesis)
      + told_minted (told_by (genesis_chain genesis) blocks)

abbrev pub SumsLaw : Type 0
SumsLaw = (genesis : Genesis) (blocks : List Block) → IsHistory genesis blocks → HaveSums genesis blocks
