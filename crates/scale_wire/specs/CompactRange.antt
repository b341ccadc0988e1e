-- The ranges of types of compact integers.
use Rattle.std.specs.Prelude.{ℕ, ◌+◌, ◌^◌, ◌<◌, ◌≤◌}
use Rattle.scale_wire.specs.Compact.{least_bytes}

-- What a type of compact integers is: the numbers below `limit` have at most `most` value bytes in
-- the mode `Big`, and at most `longest` bytes in all.
pub record Suits (most limit longest : ℕ) : Type 0 where
  pub few : most ≤ 8
  pub bounded : limit ≤ 256 ^ 8
  pub holds : (number : ℕ) → number < limit → 2 ^ 30 ≤ number → least_bytes number ≤ most
  pub four : 4 ≤ longest
  pub reaches : most + 1 ≤ longest
