-- What a pool keeps.
use Rattle.std.specs.Prelude.{◌≡◌, ◌≤◌, [], None}
use Rattle.std.specs.List.Sorted.{IsStrictlySortedBy}
use Rattle.std.specs.Map.{keys_of}
use Rattle.npos_base.specs.Account.{account_cmp}
use Rattle.stake_ledger.specs.Ledger.{IsBalanced}
use Rattle.stake_pools.specs.declared.chain.PoolChain.{PoolChain}
use Rattle.stake_pools.specs.Members.{member_of, all_credits}
use Rattle.stake_pools.specs.Chain.{pool_row, active_of, pot_of, all_points_of}

pub record IsSoundPool (chain : PoolChain) : Type 0 where
  pub balanced : IsBalanced chain.book
  -- each member stands once
  pub ordered : IsStrictlySortedBy account_cmp (keys_of chain.members)
  -- the pool is no member of itself, and nothing of it is on its way out
  pub apart : member_of chain.members chain.account ≡ None
  pub unchunked : (pool_row chain).chunks ≡ []
  -- the credits are in the pot, and a point is worth at most a unit
  pub covered : all_credits chain.members ≤ pot_of chain
  pub backed : active_of chain ≤ all_points_of chain
