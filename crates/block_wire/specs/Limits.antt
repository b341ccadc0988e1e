-- The limits of a stream and of a bundle, in numbers.
use Rattle.std.specs.Prelude.{◌≡◌}
use Rattle.block_wire.specs.declared.limits.TheConstants.{KINDS, GENESES, MOST_CALLS, MOST_NAMED, MOST_POINTS, MOST_TARGETS, MOST_VOTERS, MOST_VOTES, MOST_EDGES}

pub record AreTheLimits : Type 0 where
  pub kinds : KINDS ≡ 16
  pub geneses : GENESES ≡ 3
  pub calls : MOST_CALLS ≡ 64
  pub named : MOST_NAMED ≡ 64
  pub points : MOST_POINTS ≡ 512
  pub targets : MOST_TARGETS ≡ 2048
  pub voters : MOST_VOTERS ≡ 16384
  pub votes : MOST_VOTES ≡ 64
  pub edges : MOST_EDGES ≡ 262144
