-- The limit of the chunks of an account, in numbers.
use Rattle.std.specs.Prelude.{◌≡◌}
use Rattle.stake_ledger.specs.declared.chunks.TheConstants.{MOST_CHUNKS}

pub record AreTheLimits : Type 0 where
  pub chunks : MOST_CHUNKS ≡ 32
