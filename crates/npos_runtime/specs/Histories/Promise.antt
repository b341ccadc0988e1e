-- The promise over any history: a genesis without a fault, and blocks that there are numbers for.
use Rattle.std.specs.Prelude.{◌≡◌, ℕ, List, ◌++◌, All}
use Rattle.block_wire.specs.declared.call.Call.{Call}
use Rattle.block_wire.specs.declared.block.Block.{Block}
use Rattle.block_wire.specs.declared.genesis.Genesis.{Genesis}
use Rattle.npos_runtime.specs.Histories.Answers.{IsCallAnswered}
use Rattle.npos_runtime.specs.Histories.Deferred.{SlashesWait}
use Rattle.npos_runtime.specs.Histories.Deposits.{DepositsHold}
use Rattle.npos_runtime.specs.Histories.Eras.{chain_at, ErasHold}
use Rattle.npos_runtime.specs.Genesis.{genesis_chain}
use Rattle.npos_runtime.specs.History.{IsHistory}
use Rattle.npos_runtime.specs.Histories.Laws.{IsSeatedSoundly}
use Rattle.npos_runtime.specs.Histories.Offers.{IsNoneCrowdedOut}
use Rattle.npos_runtime.specs.Histories.Seatings.{SeatsHold}
use Rattle.npos_runtime.specs.Step.{seated_by}
use Rattle.npos_runtime.specs.Histories.Sums.{HaveSums}

pub record HoldsBehind (genesis : Genesis) (blocks : List Block) : Type 0 where
  -- every committee that was seated is sound
  pub committees : All IsSeatedSoundly (seated_by (genesis_chain genesis) blocks)
  -- each round that is not void seats one, in its time, from the snapshot that it began with
  pub seats : SeatsHold (genesis_chain genesis) blocks
  -- a block that decides a round crowds out nothing valid for free
  pub crowding : (decision : Block) → IsNoneCrowdedOut (genesis_chain genesis) blocks decision
  -- the books balance, and count what was endowed and told
  pub sums : HaveSums genesis blocks
  -- what is held are the deposits that wait, and each is settled once
  pub deposits : DepositsHold (genesis_chain genesis) blocks
  -- an era pays no more than its reward, and takes no more than the stake that stood behind it
  pub eras : ErasHold genesis blocks
  -- slashes wait until they are due, and take no more than that
  pub slashes : SlashesWait genesis blocks
  -- whatever is called in the next block is accepted, or refused for a reason with a number and undone
  pub answers : (calls : List Call) (index : ℕ) (call : Call)
      → IsCallAnswered index call (chain_at (genesis_chain genesis) blocks calls)

-- it holds behind every block: of these blocks and of each list that they begin with
abbrev pub Keeps : Genesis → List Block → Type 0
Keeps genesis blocks = (before more : List Block) → blocks ≡ before ++ more → HoldsBehind genesis before

abbrev pub PromiseLaw : Type 0
PromiseLaw = (genesis : Genesis) (blocks : List Block) → IsHistory genesis blocks → Keeps genesis blocks
