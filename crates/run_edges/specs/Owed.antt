-- How far a run goes with what it owes: which text reaches the sink, and what is left in the source.
use Rattle.std.specs.Prelude.{◌≡◌, ◌⊎◌, ⊤, ℕ, ◌≤◌, ◌+◌, Bool, true, false, List, [], ◌++◌, length, take, Option, Some, None, Result, Ok, Err, IfOk, OnOk}
use Rattle.npos_base.specs.declared.outside.Asked.{Asked}
use Rattle.npos_base.specs.declared.outside.Tried.{Tried}
use Rattle.npos_base.specs.Outside.{Told, Rose, IsAtEnd, Appends, Flushes}
use Rattle.run_edges.specs.declared.halt.Halt.{Halt}
use Rattle.run_edges.specs.declared.halt.Halt.TheVariants as halts
use Rattle.run_edges.specs.declared.status.Status.{Status}
use Rattle.run_edges.specs.declared.status.Status.TheVariants as statuses
use Rattle.run_edges.specs.Replay.{Machine, Outcome, IsReplay}
use Rattle.run_edges.specs.Status.{replay_status}

-- The text was appended whole, and all that was ever written is flushed.
-- Nothing is said of a sink that does not tell its bytes.
abbrev pub Delivers : Option Told → Option Told → List ℕ → Type 0
Delivers old None text = ⊤
Delivers old (Some now) text = (before : Told) × (old ≡ Some before)
    × (now.written ≡ before.written ++ text) × (now.flushed ≡ length now.written)

-- a front of the text was appended
abbrev pub DeliversFront : Option Told → Option Told → List ℕ → Type 0
DeliversFront old None text = ⊤
DeliversFront old (Some now) text = (before : Told) × (n : ℕ) × (old ≡ Some before)
    × (now.written ≡ before.written ++ take n text)

-- no more is flushed than was before; nothing is said of a sink that does not tell its bytes
abbrev pub KeepsFlushed : Option Told → Option Told → Type 0
KeepsFlushed old None = ⊤
KeepsFlushed old (Some now) = (before : Told) × (old ≡ Some before) × (now.flushed ≡ before.flushed)

-- the bytes are all that was left; nothing is said of a source that does not tell its bytes
abbrev pub IsAll : Option (List ℕ) → List ℕ → Type 0
IsAll None bytes = ⊤
IsAll (Some left) bytes = bytes ≡ left

-- nothing is left now; nothing is said of a source that does not tell its bytes
abbrev pub IsDrained : Option (List ℕ) → Option (List ℕ) → Type 0
IsDrained None now = ⊤
IsDrained (Some left) now = now ≡ Some []

-- The replay of these bytes was delivered, which ends with a fault line or not.
abbrev pub DeliversReplay : {G B S E : Type 0} → Machine G B S E → Bool → Option Told → Option Told → List ℕ
    → Type 0
DeliversReplay {G} {B} {S} {E} m faulty old new bytes =
    (out : Outcome S E) × IsReplay m bytes out × (out.faulty ≡ faulty) × Delivers old new out.text

-- The status comes, unless memory was refused or a count of faults rose.
abbrev pub Comes : Status → Status → Type 0 → Type 0
Comes status answer rose = (answer ≡ status) ⊎ (answer ≡ statuses.NoMemory) ⊎ rose

-- a front of the replay of these bytes was delivered
abbrev pub DeliversReplayFront : {G B S E : Type 0} → Machine G B S E → Option Told → Option Told → List ℕ
    → Type 0
DeliversReplayFront {G} {B} {S} {E} m old new bytes =
    (out : Outcome S E) → IsReplay m bytes out → DeliversFront old new out.text

-- the status comes wherever the replay of these bytes ends with a fault line, or wherever it does not
abbrev pub ComesWith : {G B S E : Type 0} → Machine G B S E → List ℕ → Bool → Status → Status → Type 0
    → Type 0
ComesWith {G} {B} {S} {E} m bytes faulty status answer rose =
    (out : Outcome S E) → IsReplay m bytes out → out.faulty ≡ faulty → Comes status answer rose

-- The count of faults of a source or of a sink over a part of a run: it rose by one where the part was
-- cut off by a fault of that kind, and stands else.
abbrev pub Counts : {T : Type 0} → Halt → ℕ → ℕ → Result T Halt → Type 0
Counts halts.ReadFault before now (Err halts.ReadFault) = Rose before now × (before ≤ now)
Counts halts.WriteFault before now (Err halts.WriteFault) = Rose before now × (before ≤ now)
Counts fault before now other = now ≡ before

-- where no read had failed or found the end before, none was made behind one that did
abbrev pub AsksInTime : Asked → Asked → Type 0
AsksInTime before now = before.ended ≡ false → now.late ≡ before.late

-- and none has failed or found the end yet
abbrev pub AsksOn : Asked → Asked → Type 0
AsksOn before now = before.ended ≡ false → (now.late ≡ before.late) × (now.ended ≡ false)

-- reads up to one that says whether the input has ended
pub record AsksOnce (before now : Asked) (result : Result Bool Halt) : Type 0 where
  pub in_time : AsksInTime before now
  pub goes_on : IfOk result (λ ended. ended ≡ false → AsksOn before now)

-- where no write or flush had failed before, none was made behind one that did
abbrev pub TriesInTime : Tried → Tried → Type 0
TriesInTime before now = before.failed ≡ false → now.late ≡ before.late

-- what ends a run: nothing is tried on the sink behind a failure, and an Ok comes behind a flush
pub record Settles {T : Type 0} (before now : Tried) (result : Result T Halt) : Type 0 where
  pub in_time : TriesInTime before now
  pub flushed : OnOk result (now.flushed ≡ true)

-- A text that ends a run with this status was delivered; or a front of it, and a write or the flush
-- failed.
abbrev pub Ends : List ℕ → Status → Option Told → Option Told → Result Status Halt → Type 0
Ends text due old new (Ok status) = (status ≡ due) × Delivers old new text
Ends text due old new (Err halts.WriteFault) = DeliversFront old new text × KeepsFlushed old new
Ends text due old new (Err other) = ⊥

-- The text was appended whole, or a front of it where a write failed.
abbrev pub Puts : Option Told → Option Told → List ℕ → Result (Unit {0}) Halt → Type 0
Puts old new text (Ok done) = Appends old new text
Puts old new text (Err halts.WriteFault) = (n : ℕ) × Appends old new (take n text)
Puts old new text (Err other) = ⊥

-- All that was written was flushed, or nothing where the flush failed.
abbrev pub FlushesBy : Option Told → Option Told → Result (Unit {0}) Halt → Type 0
FlushesBy old new (Ok done) = Flushes old new
FlushesBy old new (Err halts.WriteFault) = Appends old new []
FlushesBy old new (Err other) = ⊥

-- these bytes were taken from the front of what was left
abbrev pub LeftAfter : Option (List ℕ) → Option (List ℕ) → List ℕ → Type 0
LeftAfter None now bytes = ⊤
LeftAfter (Some left) now bytes = (rest : List ℕ) × (now ≡ Some rest) × (left ≡ bytes ++ rest)

-- More bytes stand behind those before, taken from what was left. Where the input has ended there are none.
abbrev pub TakesMore : Option (List ℕ) → Option (List ℕ) → List ℕ → List ℕ → Bool → Type 0
TakesMore old new before after ended =
    (taken : List ℕ) × (after ≡ before ++ taken) × LeftAfter old new taken
    × (ended ≡ true → (taken ≡ []) × IsAtEnd old)

-- this text is the replay's, which ends with a fault line or not
abbrev pub Replays : {G B S E : Type 0} → Machine G B S E → List ℕ → List ℕ → Bool → Type 0
Replays {G} {B} {S} {E} m bytes text faulty = (seated : List E) × (last : Option S)
    × IsReplay m bytes (record { text = text; faulty = faulty; seated = seated; last = last })

-- The text is that of the replay of all that was left; one that ends with its end line leaves
-- nothing. For a source that does not tell its bytes it is the replay of some bytes.
abbrev pub FindsReplay : {G B S E : Type 0} → Machine G B S E → Option (List ℕ) → Option (List ℕ) → List ℕ
    → Bool → Type 0
FindsReplay m old now text faulty =
    (bytes : List ℕ) × IsAll old bytes × Replays m bytes text faulty × (faulty ≡ false → IsDrained old now)

-- the text of a replay, and the status that its end calls for
abbrev pub ReplayOwes : {G B S E : Type 0} → Machine G B S E → List ℕ → List ℕ → Status → Type 0
ReplayOwes {G} {B} {S} {E} m bytes text status =
    (out : Outcome S E) × IsReplay m bytes out × (text ≡ out.text) × (status ≡ replay_status out.faulty)

-- this replay is owed, whatever the bytes are that a source does not tell
abbrev pub IsOwedReplay : {G B S E : Type 0} → Machine G B S E → Option (List ℕ) → List ℕ → Status → Type 0
IsOwedReplay m left text status = (bytes : List ℕ) → IsAll left bytes → ReplayOwes m bytes text status

-- a front of the replay that is owed was delivered
abbrev pub BeginsReplay : {G B S E : Type 0} → Machine G B S E → Option (List ℕ) → Option Told → Option Told
    → Type 0
BeginsReplay m left old new =
    (text : List ℕ) (status : Status) → IsOwedReplay m left text status → DeliversFront old new text

-- These bytes were taken, at most one more than the limit. Where the limit was kept they are all
-- that was left.
pub record ReadsUpTo (most : ℕ) (old now : Option (List ℕ)) (bytes : List ℕ) : Type 0 where
  pub taken : LeftAfter old now bytes
  pub few : length bytes ≤ most + 1
  pub ended : length bytes ≤ most → IsDrained old now

-- at most so many bytes were taken
abbrev pub TakesAtMost : ℕ → Option (List ℕ) → Option (List ℕ) → Type 0
TakesAtMost most old now = (taken : List ℕ) × LeftAfter old now taken × (length taken ≤ most)
