-- The limits of a pool, in numbers.
use Rattle.std.specs.Prelude.{◌≡◌}
use Rattle.stake_pools.specs.declared.leaves.TheConstants.{MOST_LEAVES}
use Rattle.stake_pools.specs.declared.members.TheConstants.{MOST_MEMBERS}

pub record AreTheLimits : Type 0 where
  pub leaves : MOST_LEAVES ≡ 32
  pub members : MOST_MEMBERS ≡ 4096
