-- What a run says of a replay that was cut off.
use Rattle.std.specs.Prelude.{ℕ, ◌-◌, List, length, take, Option}
use Rattle.npos_base.specs.Outside.{Told, Appends}
use Rattle.run_edges.specs.Replay.{IsWhole, IsFront}
use Rattle.npos_cli.specs.Chain.{npos_machine}
use Rattle.run_edges.specs.Owed.{LeftAfter}
use Rattle.run_edges.specs.Streaming.{WritesBlocks}

-- a read failed: what was written is the text of the whole blocks of the bytes taken
abbrev pub HaltedReading : Option (List ℕ) → Option (List ℕ) → Option Told → Option Told → Type 0
HaltedReading left now old new =
    (taken : List ℕ) × LeftAfter left now taken × (written : List ℕ) × Appends old new written
    × IsWhole npos_machine taken written

-- what was written begins with the text of the whole blocks of all these bytes but the last 65,536
abbrev pub HasWritten : List ℕ → List ℕ → Type 0
HasWritten taken written =
    (text : List ℕ) → IsWhole npos_machine (take (length taken - 65536) taken) text → IsFront text written

-- a write or the flush failed
abbrev pub HaltedWriting : Option (List ℕ) → Option (List ℕ) → Option Told → Option Told → Type 0
HaltedWriting left now old new =
    (taken : List ℕ) × LeftAfter left now taken × (written : List ℕ) × Appends old new written
    × HasWritten taken written

-- memory ran out: what was written is the text of whole blocks
abbrev pub HaltedStarving : Option (List ℕ) → Option (List ℕ) → Option Told → Option Told → Type 0
HaltedStarving left now old new =
    (taken : List ℕ) × LeftAfter left now taken × (written : List ℕ) × Appends old new written
    × WritesBlocks npos_machine taken written
