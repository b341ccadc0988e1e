-- What the reader of a stream does at one place, and until the end.
use Rattle.std.specs.Prelude.{◌≡◌, ◌⊎◌, ◌<◌, ⊤, ℕ, ◌≤◌, Bool, true, false, List, [], ◌++◌, length, Option, None, Result, Ok, Err}
use Rattle.scale_wire.specs.declared.fault.Why.TheVariants.{Short, Trailing}
use Rattle.npos_base.specs.Outside.{Told, Appends}
use Rattle.scale_wire.specs.Reading.{Place}
use Rattle.run_edges.specs.declared.turn.Turn.{Turn}
use Rattle.run_edges.specs.declared.turn.Turn.TheVariants.{Taken, Stopped}
use Rattle.run_edges.specs.declared.turn.Stop.{Stop}
use Rattle.run_edges.specs.declared.turn.Stop.TheVariants.{More, Last}
use Rattle.bundle_reports.specs.Texts.{fault_line}
use Rattle.run_edges.specs.declared.halt.Halt.{Halt}
use Rattle.run_edges.specs.declared.halt.Halt.TheVariants as halts
use Rattle.run_edges.specs.Ahead.{MayFollow}
use Rattle.run_edges.specs.Replay.{Machine, Spot, turn, IsTurn, behind, Starts, Reaches, Stops, IsFront}

-- where a cursor and a state stand together
abbrev pub spot : {S : Type 0} → Place → S → Spot S
spot place state = record { at = place.at; state = state; rest = place.rest }

-- the same place where more bytes follow
abbrev pub grown : {S : Type 0} → List ℕ → Spot S → Spot S
grown more p = record { at = p.at; state = p.state; rest = p.rest ++ more }

-- a replay ends here, whatever may follow the bytes that are known
abbrev pub StopsSurely : {G B S E : Type 0} → Machine G B S E → Bool → Spot S → List ℕ → Bool → Type 0
StopsSurely m ended q line faulty =
    (more : List ℕ) → MayFollow ended more → Stops m (grown more q) line faulty

-- here the bytes end before a block or the None does, or behind the None
abbrev pub IsCutHere : {G B S E : Type 0} → Machine G B S E → Spot S → Type 0
IsCutHere m p = ((at : ℕ) × (turn m).bad p.rest at Short) ⊎ (p.rest ≡ (turn m).spelling None)

-- A block was taken, or the input may go on where the bytes are cut, and nothing was taken, or the
-- replay ends here. That a replay without a fault line has read the input to its end follows from
-- the rest; it is told for its users.
abbrev pub Turns : {G B S E : Type 0} → Machine G B S E → Bool → Spot S → Spot S → List ℕ → Turn → Type 0
Turns {G} {B} {S} {E} m ended p q told Taken =
    (block : B) × IsTurn m p block q.rest × (q ≡ behind m p block q.rest) × (told ≡ m.lines p.state block)
Turns m ended p q told (Stopped More) = (ended ≡ false) × IsCutHere m p × (q ≡ p) × (told ≡ [])
Turns m ended p q told (Stopped (Last faulty)) = StopsSurely m ended p told faulty
    × (faulty ≡ false → ended ≡ true)

-- one turn of the reader, with what it appended
abbrev pub TakesTurn : {G B S E : Type 0} → Machine G B S E → Bool → Spot S → Spot S → List ℕ → List ℕ → Turn
    → Type 0
TakesTurn m ended p q old new turn = (told : List ℕ) × (new ≡ old ++ told) × Turns m ended p q told turn

-- items lead from one place to the other, and were told
abbrev pub HasTold : {G B S E : Type 0} → Machine G B S E → Spot S → Spot S → List ℕ → List ℕ → Type 0
HasTold m p q old new = (written : List ℕ) × Reaches m p q written × (new ≡ old ++ written)

-- Blocks lead from one place to another, and what they write was written. Then bytes are missing
-- that may still come, or the replay ends with a line that was not written yet; or memory ran out,
-- or a write failed within what the blocks write.
abbrev pub WritesOn : {G B S E : Type 0} → Machine G B S E → Bool → Spot S → Spot S → Option Told
    → Option Told → List ℕ → Result Stop Halt → Type 0
WritesOn m ended p q old new line (Ok More) =
    (ended ≡ false) × IsCutHere m q × ((written : List ℕ) × Reaches m p q written × Appends old new written)
WritesOn {G} {B} {S} {E} m ended p q old new line (Ok (Last faulty)) =
    (r : Spot S) × (written : List ℕ) × Reaches m p r written × StopsSurely m ended r line faulty
    × (faulty ≡ false → ended ≡ true)
    × Appends old new written
WritesOn {G} {B} {S} {E} m ended p q old new line (Err halts.NoMemory) =
    (r : Spot S) × (written : List ℕ) × Reaches m p r written × Appends old new written
WritesOn {G} {B} {S} {E} m ended p q old new line (Err halts.WriteFault) =
    (r : Spot S) × (written : List ℕ) × (put : List ℕ) × Reaches m p r written × IsFront put written
    × Appends old new put
WritesOn m ended p q old new line (Err other) = ⊥

-- Behind the None that ends a stream: the line of the byte that follows, or the ending where none does.
abbrev pub StopsHere : Place → List ℕ → List ℕ → List ℕ → Stop → Type 0
StopsHere place ending old new More = ⊥
StopsHere place ending old new (Last true) = (0 < length place.rest)
    × (new ≡ old ++ fault_line place.at Trailing)
StopsHere place ending old new (Last false) = (place.rest ≡ []) × (new ≡ old ++ ending)

-- after this turn the reader goes on
abbrev pub IsGoing : Turn → Type 0
IsGoing Taken = ⊤
IsGoing (Stopped More) = ⊤
IsGoing (Stopped (Last faulty)) = ⊥

-- The bytes leave the end of their replay open, and what their whole blocks write is the text:
-- their genesis is cut, or what stands behind their blocks is.
pub data IsUndecided {G B S E : Type 0} (m : Machine G B S E) (bytes text : List ℕ) : Type 0 where
  InGenesis : (at : ℕ) → m.genesis.bad bytes at Short → text ≡ [] → IsUndecided m bytes text
  Behind : (p q : Spot S) → Starts m bytes p → Reaches m p q text → IsCutHere m q → IsUndecided m bytes text

-- All bytes taken but those of the last piece leave the end open, and what the whole blocks in them
-- write was written.
pub record KeepsUp {G B S E : Type 0} (m : Machine G B S E) (taken written : List ℕ) : Type 0 where
  pub earlier : List ℕ
  pub last : List ℕ
  pub text : List ℕ
  pub split : taken ≡ earlier ++ last
  pub one_piece : length last ≤ 65536
  pub unsure : IsUndecided m earlier text
  pub before : IsFront text written
