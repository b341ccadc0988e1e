-- The limit of the slashes that wait, in numbers.
use Rattle.std.specs.Prelude.{◌≡◌}
use Rattle.era_book.specs.declared.deferred.TheConstants.{MOST_SLASHES}

pub record AreTheLimits : Type 0 where
  pub slashes : MOST_SLASHES ≡ 256
