-- What the tables say of those that no way leads from, in numbers.
use Rattle.std.specs.Prelude.{◌≡◌}
use Rattle.committee_answer.specs.declared.reach.TheConstants.{FAR}

pub record AreTheLimits : Type 0 where
  pub far : FAR ≡ 4294967295
