-- What becomes of deposits over blocks: what is held, and when each is settled.
use Rattle.std.specs.Prelude.{◌≡◌, ℕ, ◌+◌, ◌<◌, ◌≤◌, true, List, [], ◌∷◌, ◌++◌}
use Rattle.npos_base.specs.declared.account.AccountId.{AccountId}
use Rattle.block_wire.specs.declared.block.Block.{Block}
use Rattle.block_wire.specs.declared.genesis.Genesis.{Genesis}
use Rattle.stake_ledger.specs.Ledger.{row_at}
use Rattle.round_decision.specs.Deposits.{deposits_of}
use Rattle.chain_params.specs.Rules.{is_decision}
use Rattle.npos_runtime.specs.declared.chain.Chain.{Chain}
use Rattle.npos_runtime.specs.Genesis.{genesis_chain}
use Rattle.npos_runtime.specs.History.{CanTake, IsHistory}
use Rattle.npos_runtime.specs.Kept.Sound.{AreSoundSubmissions}
use Rattle.npos_runtime.specs.Step.{after_blocks, told_by}
use Rattle.npos_runtime.specs.Histories.Fates.{fate, waiting_with, issued}

-- Behind a block that decides a round nothing waits. Each number that was issued by then was settled
-- once by then, and is not settled again, whatever blocks follow.
pub record AreSettledBy (chain : Chain) (before : List Block) (decision : Block)
    (more : List Block) : Type 0 where
  pub emptied : (after_blocks chain (before ++ decision ∷ [])).queue.items ≡ []
  pub settled : (number : ℕ) → 1 ≤ number → number < (after_blocks chain (before ++ decision ∷ [])).next
      → fate number (told_by chain (before ++ decision ∷ [])) ≡ 1
  pub once : (number : ℕ) → 1 ≤ number → number < (after_blocks chain (before ++ decision ∷ [])).next
      → fate number (told_by chain (before ++ decision ∷ more)) ≡ 1

pub record DepositsHold (chain : Chain) (blocks : List Block) : Type 0 where
  -- what is held of an account is the deposits of its submissions that wait
  pub held : (who : AccountId) → (row_at (after_blocks chain blocks).book who).held
      ≡ deposits_of who (after_blocks chain blocks).queue.items
  -- numbers rise from 1 without gaps; each that was issued waits, or was settled once, and no other was
  pub fates : (number : ℕ) → 1 ≤ number
      → fate number (told_by chain blocks) + waiting_with number (after_blocks chain blocks).queue.items
      ≡ issued number (after_blocks chain blocks).next
  -- by the time a round is decided all that were issued are settled
  pub decided : (before more : List Block) (decision : Block) → blocks ≡ before ++ decision ∷ more
      → is_decision chain.params (after_blocks chain before).due ≡ true
      → AreSettledBy chain before decision more

abbrev pub DepositsLaw : Type 0
DepositsLaw = (genesis : Genesis) (blocks : List Block) → IsHistory genesis blocks
    → DepositsHold (genesis_chain genesis) blocks

-- ## From any chain on

-- Nothing is known of what was settled before.
pub record DepositsGoOn (chain : Chain) (blocks : List Block) : Type 0 where
  -- what is held of an account is the deposits of its submissions that wait
  pub held : (who : AccountId) → (row_at (after_blocks chain blocks).book who).held
      ≡ deposits_of who (after_blocks chain blocks).queue.items
  -- Each that waited has a number of its own, which was given to it. Whatever waited, or is given a
  -- number since then, is settled once, or waits still.
  pub waited : (number : ℕ) → waiting_with number chain.queue.items ≤ issued number chain.next
  pub fates : (number : ℕ) → fate number (told_by chain blocks)
      + (waiting_with number (after_blocks chain blocks).queue.items + issued number chain.next)
      ≡ waiting_with number chain.queue.items + issued number (after_blocks chain blocks).next
  -- behind a block that decides a round nothing waits
  pub emptied : (before more : List Block) (decision : Block) → blocks ≡ before ++ decision ∷ more
      → is_decision chain.params (after_blocks chain before).due ≡ true
      → (after_blocks chain (before ++ decision ∷ [])).queue.items ≡ []

abbrev pub DepositsGoOnLaw : Type 0
DepositsGoOnLaw = (chain : Chain) (blocks : List Block) → CanTake chain blocks → AreSoundSubmissions chain
    → DepositsGoOn chain blocks
