-- The state of a pool in figures: its points, its active stake and its pot, and what points are worth.
use Rattle.std.specs.Prelude.{ℕ, ◌*◌, ◌/◌}
use Rattle.npos_base.specs.declared.account.AccountId.{AccountId}
use Rattle.stake_ledger.specs.declared.row.Row.{Row}
use Rattle.stake_ledger.specs.Ledger.{row_at}
use Rattle.stake_pools.specs.declared.chain.PoolChain.{PoolChain}
use Rattle.stake_pools.specs.Members.{points_of, member_at, total, all_points}

-- what the pool's account has
abbrev pub pool_row : PoolChain → Row
pool_row chain = row_at chain.book chain.account

-- what is bonded for the members together
abbrev pub active_of : PoolChain → ℕ
active_of chain = (pool_row chain).active

-- what is free: rewards, of which a part is credited to members
abbrev pub pot_of : PoolChain → ℕ
pot_of chain = (pool_row chain).free

-- all points, staying and on their way out
abbrev pub all_points_of : PoolChain → ℕ
all_points_of chain = all_points chain.members

-- what so many points are worth: their part of the active stake, rounded down
abbrev pub worth_of : PoolChain → ℕ → ℕ
worth_of chain points = active_of chain * points / all_points_of chain

-- what the points of an account are worth
abbrev pub member_worth : PoolChain → AccountId → ℕ
member_worth chain who = worth_of chain (points_of (member_at chain.members who))

-- what the points of all members are worth, each member's on its own
abbrev pub all_worths : PoolChain → ℕ
all_worths chain = total (λ member. worth_of chain (points_of member)) chain.members
