-- The limits of the arrays of a bundle, in numbers.
use Rattle.std.specs.Prelude.{◌≡◌}
use Rattle.bundle_json.specs.declared.limits.TheConstants.{MOST_VOTES, MOST_EDGES}

pub record AreTheLimits : Type 0 where
  pub votes : MOST_VOTES ≡ 64
  pub edges : MOST_EDGES ≡ 262144
