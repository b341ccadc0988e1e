-- The limits of a bundle, in numbers.
use Rattle.std.specs.Prelude.{◌≡◌}
use Rattle.election_work.specs.declared.reading.TheConstants.{MOST_BUNDLE}
use Rattle.election_work.specs.declared.bundle_parts.TheConstants.{MOST_VOTERS}

pub record AreTheLimits : Type 0 where
  pub bundle : MOST_BUNDLE ≡ 16777216
  pub voters : MOST_VOTERS ≡ 16384
