-- A pool that runs, and what the taking of an item makes of it.
use Rattle.std.specs.Prelude.{◌≡◌, Bool, true, false, List}
use Rattle.npos_base.specs.declared.account.AccountId.{AccountId}
use Rattle.stake_pools.specs.declared.input.PoolKind.{PoolKind}
use Rattle.stake_pools.specs.declared.line.PoolLine.{PoolLine}
use Rattle.stake_pools.specs.declared.chain.PoolChain.{PoolChain}
use Rattle.stake_pools.specs.declared.pool.PoolBlock.{PoolBlock}
use Rattle.stake_pools.specs.declared.pool.PoolBlock.TheVariants.{Spent, NoMemory}
use Rattle.stake_pools.specs.Step.{item_outcome}

-- the state of the pool, and whether it is spent: then nothing is said of the state but its books
pub record Life : Type 0 where
  pub state : PoolChain
  pub spent : Bool

-- the item was taken: lines and state are those of its outcome
pub record AppliesWell (old new : Life) (who : AccountId) (kind : PoolKind) (lines : List PoolLine)
    : Type 0 where
  pub unspent : old.spent ≡ false
  pub lines_are : lines ≡ (item_outcome old.state who kind).lines
  pub new_is : new ≡ record { state = (item_outcome old.state who kind).state; spent = false }

-- the item was not taken, for this reason
abbrev pub IsBlocked : Life → Life → PoolBlock → Type 0
IsBlocked old new Spent = (old.spent ≡ true) × (new ≡ old)
IsBlocked old new NoMemory = (old.spent ≡ false) × (new.spent ≡ true)
