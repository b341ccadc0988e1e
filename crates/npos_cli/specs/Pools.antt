-- A stake pool as a machine that replays are made with: items stand in place of blocks.
use Rattle.std.specs.Prelude.{◌≡◌, ◌≢◌, ℕ, ◌+◌, ◌*◌, ◌<◌, ◌≤◌, List, [], ◌∷◌, ◌++◌, flat_map, Option, Some, None, Result, Ok, Err, codes, decimal}
use Rattle.stake_ledger.specs.Ledger.{totals_of}
use Rattle.stake_pools.specs.declared.input.PoolGenesis.{PoolGenesis}
use Rattle.stake_pools.specs.declared.input.PoolItem.{PoolItem}
use Rattle.stake_pools.specs.declared.fault.PoolFault.{PoolFault}
use Rattle.stake_pools.specs.declared.line.PoolLine.{PoolLine}
use Rattle.stake_pools.specs.declared.line.PoolLine.TheVariants as lines
use Rattle.stake_pools.specs.declared.chain.PoolChain.{PoolChain}
use Rattle.stake_pools.specs.Input.{pool_genesis_form, item_form}
use Rattle.stake_pools.specs.Members.{all_credits}
use Rattle.stake_pools.specs.Chain.{active_of, pot_of, all_points_of, member_worth, all_worths}
use Rattle.stake_pools.specs.Genesis.{pool_fault, pool_chain, fault_numbers}
use Rattle.stake_pools.specs.Step.{item_outcome}
use Rattle.stake_pools.specs.Rules.{due_points}
use Rattle.stake_pools.specs.Sound.{IsSoundPool}
use Rattle.stake_pools.specs.Laws.{KeepsPrice, IsNoSlash}
use Rattle.stake_pools.specs.declared.input.PoolKind.{PoolKind}
use Rattle.stake_pools.specs.declared.input.PoolKind.TheVariants.{Join, Redeem}
use Rattle.npos_base.specs.declared.account.AccountId.{AccountId}
use Rattle.told_lines.specs.Texts.{newline, amount_line}
use Rattle.npos_cli.specs.Texts.{genesis_line}
use Rattle.npos_cli.specs.Chain.{end_line}
use Rattle.run_edges.specs.Replay.{Machine, Spot, Starts, Reaches}

-- a pool, and how many items were gone through
pub record PoolRun : Type 0 where
  pub asked : ℕ
  pub pool : PoolChain

-- a line of the item with this number, counted from 0
abbrev pub pool_line_text : ℕ → PoolLine → List ℕ
pool_line_text index lines.Accepted = codes "call " ++ (decimal index ++ codes " ok\n")
pool_line_text index (lines.Refused code) =
    codes "call " ++ (decimal index ++ (codes " refused " ++ (decimal code ++ newline)))
pool_line_text index (lines.Paid who amount) = amount_line (codes "paid ") who amount
pool_line_text index (lines.Slashed who amount) = amount_line (codes "slashed ") who amount

-- the line of the pool itself: its points, what is active and what is free, and the credits
abbrev pub figures_line : ℕ → ℕ → ℕ → ℕ → List ℕ
figures_line points active pot credits =
    codes "pool points " ++ (decimal points
    ++ (codes " active " ++ (decimal active
    ++ (codes " pot " ++ (decimal pot ++ (codes " credits " ++ (decimal credits ++ newline)))))))

abbrev pub pool_line : PoolChain → List ℕ
pool_line pool =
    figures_line (all_points_of pool) (active_of pool) (pot_of pool) (all_credits pool.members)

-- the lines of a pool where the input ends
abbrev pub pool_ending : PoolChain → List ℕ
pool_ending pool = pool_line pool ++ end_line (totals_of pool.book)

-- the pool of a genesis, or the line of its first fault
abbrev pub pool_started : Option PoolFault → PoolGenesis → Result PoolRun (List ℕ)
pool_started None genesis = Ok (record { asked = 0; pool = pool_chain genesis })
pool_started (Some fault) genesis = Err (genesis_line (fault_numbers fault))

-- Items have no number: each is due. Nothing is elected.
abbrev pub pool_machine : Machine PoolGenesis PoolItem PoolRun ⊥
pool_machine = record {
  genesis = pool_genesis_form;
  block = item_form;
  start = λ genesis. pool_started (pool_fault genesis) genesis;
  number = λ item. 0;
  due = λ run. 0;
  after = λ run item. record {
    asked = run.asked + 1;
    pool = (item_outcome run.pool item.who item.kind).state;
  };
  lines = λ run item.
      flat_map (pool_line_text run.asked) (item_outcome run.pool item.who item.kind).lines;
  seats = λ run item. [];
  ending = λ run. pool_ending run.pool;
}

-- What holds of a pool: its books balance, and credits and active stake are within what they stand
-- for; what the members' points are worth is there; nobody who joins or redeems lowers the price of a
-- point, nobody is diluted by another but by a slash, and nobody is paid more than its part.
pub record IsFair (pool : PoolChain) : Type 0 where
  pub sound : IsSoundPool pool
  pub worths : 0 < all_points_of pool → all_worths pool ≤ active_of pool
  pub joins : (who : AccountId) (value : ℕ) → KeepsPrice pool (item_outcome pool who (Join value)).state
  pub redeems : (who : AccountId) → KeepsPrice pool (item_outcome pool who Redeem).state
  pub undiluted : (who other : AccountId) (kind : PoolKind) → IsNoSlash kind → other ≢ who
      → member_worth pool other ≤ member_worth (item_outcome pool who kind).state other
  pub paid : (who to : AccountId) (amount : ℕ)
      → (item_outcome pool who Redeem).lines ≡ lines.Accepted ∷ lines.Paid to amount ∷ []
      → amount * all_points_of pool ≤ active_of pool * due_points pool who

-- so it is wherever the input of a pool has come
abbrev pub PoolsAreFair : List ℕ → Type 0
PoolsAreFair bytes = (start place : Spot PoolRun) (text : List ℕ) → Starts pool_machine bytes start
    → Reaches pool_machine start place text → IsFair place.state.pool
