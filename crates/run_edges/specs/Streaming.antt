-- How far a replay has come that reads piece by piece and writes block by block, and how it ends.
use Rattle.std.specs.Prelude.{◌≡◌, ◌⊎◌, ⊤, ℕ, ◌≤◌, Bool, false, List, [], ◌++◌, length, Option, Result, Ok, Err}
use Rattle.npos_base.specs.Outside.{Told, Appends}
use Rattle.run_edges.specs.declared.status.Status.{Status}
use Rattle.run_edges.specs.declared.halt.Halt.{Halt}
use Rattle.run_edges.specs.declared.halt.Halt.TheVariants as halts
use Rattle.run_edges.specs.Replay.{Machine, Spot, Starts, Reaches, IsWhole}
use Rattle.run_edges.specs.Ahead.{HasSeen}
use Rattle.run_edges.specs.Turning.{IsUndecided, KeepsUp}
use Rattle.run_edges.specs.Owed.{LeftAfter, FindsReplay, BeginsReplay, Delivers}
use Rattle.run_edges.specs.Status.{replay_status}

-- The bytes taken lead to here, and what their blocks write was written.
pub record Course {G B S E : Type 0} (m : Machine G B S E) (left now : Option (List ℕ)) (old new : Option Told)
    (ended : Bool) (here : Spot S) : Type 0 where
  pub taken : List ℕ
  pub written : List ℕ
  pub seen : HasSeen left now taken false ended
  pub told : Appends old new written
  pub start : Spot S
  pub starts : Starts m taken start
  pub reaches : Reaches m start here written
  pub keeps_up : KeepsUp m taken written

-- The replay is known, and all of it but its last line was written.
pub record Finished {G B S E : Type 0} (m : Machine G B S E) (left now : Option (List ℕ)) (old new : Option Told)
    (line : List ℕ) (faulty : Bool) : Type 0 where
  pub taken : List ℕ
  pub written : List ℕ
  pub left_is : LeftAfter left now taken
  pub told : Appends old new written
  pub keeps_up : KeepsUp m taken written
  pub finds : FindsReplay m left now (written ++ line) faulty

-- the text is what the first blocks of the bytes write, or nothing
abbrev pub WritesBlocks : {G B S E : Type 0} → Machine G B S E → List ℕ → List ℕ → Type 0
WritesBlocks {G} {B} {S} {E} m taken written =
    (written ≡ []) ⊎ ((start : Spot S) × (place : Spot S) × Starts m taken start × Reaches m start place written)

-- what cuts a replay off says of the bytes taken and the text written
abbrev pub CutBy : {G B S E : Type 0} → Machine G B S E → Halt → List ℕ → List ℕ → Type 0
CutBy m halts.ReadFault taken written = IsWhole m taken written
CutBy m halts.WriteFault taken written = ⊤
CutBy m halts.NoMemory taken written = WritesBlocks m taken written

-- A replay was cut off: what was taken and what was written, of which nothing was flushed.
pub record Halts {G B S E : Type 0} (m : Machine G B S E) (left now : Option (List ℕ)) (old new : Option Told)
    (halt : Halt) : Type 0 where
  pub taken : List ℕ
  pub written : List ℕ
  pub left_is : LeftAfter left now taken
  pub told : Appends old new written
  pub keeps_up : KeepsUp m taken written
  pub front : BeginsReplay m left old new
  pub cut : CutBy m halt taken written

-- a replay that was told to its last line, or cut off
abbrev pub Runs : {G B S E : Type 0} → Machine G B S E → Option (List ℕ) → Option (List ℕ) → Option Told
    → Option Told → List ℕ → Result Bool Halt → Type 0
Runs m left now old new line (Ok faulty) = Finished m left now old new line faulty
Runs m left now old new line (Err halt) = Halts m left now old new halt

-- whatever led to a place goes on from there to an end
abbrev pub RunsOn : {G B S E : Type 0} → Machine G B S E → Option (List ℕ) → Option (List ℕ) → Option Told
    → Option Told → Spot S → List ℕ → Result Bool Halt → Type 0
RunsOn m mid now told new here line result =
    (left : Option (List ℕ)) (old : Option Told) → Course m left mid old told false here
    → Runs m left now old new line result

-- The replay was delivered, and all that it read leaves its end open but for the last piece; or it
-- was cut off.
pub record Delivered {G B S E : Type 0} (m : Machine G B S E) (left now : Option (List ℕ)) (old new : Option Told)
    (status : Status) : Type 0 where
  pub taken : List ℕ
  pub written : List ℕ
  pub left_is : LeftAfter left now taken
  pub keeps_up : KeepsUp m taken written
  pub text : List ℕ
  pub faulty : Bool
  pub finds : FindsReplay m left now text faulty
  pub status_is : status ≡ replay_status faulty
  pub delivers : Delivers old new text

abbrev pub ReplayEnds : {G B S E : Type 0} → Machine G B S E → Option (List ℕ) → Option (List ℕ) → Option Told
    → Option Told → Result Status Halt → Type 0
ReplayEnds m left now old new (Ok status) = Delivered m left now old new status
ReplayEnds m left now old new (Err halt) = Halts m left now old new halt

-- What was taken before the last read, which gave so many bytes, leaves the end open: so no read is
-- made once the bytes hold the cause of a fault line, or a byte behind the None.
pub record ReadsWhile {G B S E : Type 0} (m : Machine G B S E) (left now : Option (List ℕ)) (gave : ℕ) : Type 0 where
  pub earlier : List ℕ
  pub last : List ℕ
  pub text : List ℕ
  pub taken : LeftAfter left now (earlier ++ last)
  pub last_read : length last ≤ gave
  pub one_piece : length last ≤ 65536
  pub unsure : IsUndecided m earlier text

-- whatever led to a place with no read too many goes on from there with none
abbrev pub ReadsOnWhile : {G B S E : Type 0} → Machine G B S E → Option (List ℕ) → Option (List ℕ) → ℕ → ℕ
    → Option Told → Spot S → Type 0
ReadsOnWhile m mid now gave gave_now told here =
    (left : Option (List ℕ)) (old : Option Told) → Course m left mid old told false here
    → ReadsWhile m left mid gave → ReadsWhile m left now gave_now
