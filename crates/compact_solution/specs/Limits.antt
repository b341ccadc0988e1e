-- The two forms of a solution, in numbers.
use Rattle.std.specs.Prelude.{◌≡◌}
use Rattle.compact_solution.specs.declared.entry.TheConstants.{PLAIN_GROUPS, WIDE_GROUPS, WIDE_MARK, WHOLE_STAKE}

pub record AreTheLimits : Type 0 where
  pub plain_groups : PLAIN_GROUPS ≡ 16
  pub wide_groups : WIDE_GROUPS ≡ 24
  pub wide_mark : WIDE_MARK ≡ 255
  pub whole_stake : WHOLE_STAKE ≡ 65535
