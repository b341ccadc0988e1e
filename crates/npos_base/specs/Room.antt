-- A list with room made beforehand.
use Rattle.std.specs.Prelude.{ℕ, List}

-- the items, and how many more can be appended before memory is asked for
pub record RoomOf (T : Type 0) : Type 0 where
  pub items : List T
  pub spare : ℕ
