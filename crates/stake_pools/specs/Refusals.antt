-- The numbers of the reasons for which an item is refused.
use Rattle.std.specs.Prelude.{ℕ}
use Rattle.stake_pools.specs.declared.refusal.PoolRefusal.{PoolRefusal}
use Rattle.stake_pools.specs.declared.refusal.PoolRefusal.TheVariants.{LowFunds, ZeroValue, SameAccount, NotRoot, NotMember, LowPoints, NotDue}
use Rattle.stake_pools.specs.declared.refusal.PoolRefusal.TheVariants.{TooManyMembers, TooManyLeaves, PoolWiped, TooManyPoints, NoStayer, NothingDue, LastEra}

abbrev pub refusal_number : PoolRefusal → ℕ
refusal_number LowFunds = 1
refusal_number ZeroValue = 7
refusal_number SameAccount = 8
refusal_number NotRoot = 27
refusal_number NotMember = 33
refusal_number LowPoints = 35
refusal_number NotDue = 36
refusal_number TooManyMembers = 37
refusal_number TooManyLeaves = 38
refusal_number PoolWiped = 39
refusal_number TooManyPoints = 40
refusal_number NoStayer = 41
refusal_number NothingDue = 42
refusal_number LastEra = 43
