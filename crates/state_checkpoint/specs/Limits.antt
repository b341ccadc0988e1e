-- The limits of the lists of a state, in numbers.
use Rattle.std.specs.Prelude.{◌≡◌}
use Rattle.state_checkpoint.specs.declared.limits.TheConstants.{MOST_CHUNKS, MOST_MEMBERS, MOST_BACKERS, MOST_TARGETS, MOST_VOTERS, MOST_EDGES, MOST_SLASHES, MOST_LINES}

pub record AreTheLimits : Type 0 where
  pub chunks : MOST_CHUNKS ≡ 32
  pub members : MOST_MEMBERS ≡ 512
  pub backers : MOST_BACKERS ≡ 16384
  pub targets : MOST_TARGETS ≡ 2048
  pub voters : MOST_VOTERS ≡ 16384
  pub edges : MOST_EDGES ≡ 393216
  pub slashes : MOST_SLASHES ≡ 256
  pub lines : MOST_LINES ≡ 16384
