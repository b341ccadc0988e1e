-- A stream that is whole, which a replay ends with its end line.
use Rattle.std.specs.Prelude.{◌≡◌, ℕ, List, Option, None, Some}
use Rattle.run_edges.specs.Replay.{Machine, Spot, turn, Starts, Reaches}

-- The bytes are a genesis without a fault, then blocks whose numbers are due, each in its Option, and
-- then the None.
pub record IsStream {G B S E : Type 0} (m : Machine G B S E) (bytes : List ℕ) : Type 0 where
  pub start : Spot S
  pub place : Spot S
  pub text : List ℕ
  pub starts : Starts m bytes start
  pub reaches : Reaches m start place text
  pub ended : place.rest ≡ (turn m).spelling None

-- what is left is a whole stream; nothing is known of a source that does not tell its bytes
abbrev pub LeavesStream : {G B S E : Type 0} → Machine G B S E → Option (List ℕ) → Type 0
LeavesStream m left = (bytes : List ℕ) × (left ≡ Some bytes) × IsStream m bytes
