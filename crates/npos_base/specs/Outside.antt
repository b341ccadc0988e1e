-- The edge to the outside: a source that gives bytes, a sink that takes them, and their counts of faults.
use Rattle.std.specs.Prelude.{◌≡◌, ⊤, ℕ, ◌+◌, ◌-◌, ◌^◌, ◌<◌, ◌≤◌, min, nat_eq, nat_lt, true, false, ◌||◌, ◌&&◌, List, []}
use Rattle.std.specs.Prelude.{◌++◌, length, take, drop, Option, Some, None, Result, Ok, Err, IfOk, OnOk, OnErr, MatchResult}
use Rattle.npos_base.specs.declared.outside.Asked.{Asked}
use Rattle.npos_base.specs.declared.outside.Tried.{Tried}

-- the last value of a count of faults, at which it stays
abbrev pub most_faults : ℕ
most_faults = 2 ^ 64 - 1

-- one fault more
abbrev pub one_more : ℕ → ℕ
one_more faults = min (faults + 1) most_faults

-- the count rose by one, or stands at its last value
abbrev pub Rose : ℕ → ℕ → Type 0
Rose before now = now ≡ one_more before

-- an Err has one fault as its cause, an Ok leaves the count, and the count never falls
pub record HasCause {T E : Type 0} (before now : ℕ) (result : Result T E) : Type 0 where
  pub ok : IfOk result (λ _. now ≡ before)
  pub failed : OnErr result (Rose before now)
  pub later : before ≤ now

-- the bytes that were left begin with the n bytes that were taken, and what is behind those is left now;
-- nothing is said of a source that does not tell its bytes
abbrev pub Takes : Option (List ℕ) → Option (List ℕ) → ℕ → List ℕ → Type 0
Takes None now n taken = ⊤
Takes (Some left) now n taken = (n ≤ length left) × (taken ≡ take n left) × (now ≡ Some (drop n left))

-- no byte is left
abbrev pub IsAtEnd : Option (List ℕ) → Type 0
IsAtEnd None = ⊤
IsAtEnd (Some left) = left ≡ []

-- a read gives the first bytes left, and a failed read takes none; no byte for a buffer with room is the end
abbrev pub Gives : {E : Type 0} → Option (List ℕ) → Option (List ℕ) → Result ℕ E → List ℕ → Type 0
Gives old new result buffer = MatchResult result
    (λ n. Takes old new n (take n buffer) × (n ≡ 0 → 0 < length buffer → IsAtEnd old))
    (λ _. Takes old new 0 [])

-- nothing was read yet
abbrev pub unasked : Asked
unasked = record { ended = false; late = false; last = 0 }

-- after a read that gave n bytes for a buffer with this room
abbrev pub given_more : Asked → ℕ → ℕ → Asked
given_more before room n = record {
  ended = before.ended || (nat_eq n 0 && nat_lt 0 room);
  late = before.late || before.ended;
  last = n;
}

-- after a read that failed
abbrev pub given_none : Asked → Asked
given_none before = record { ended = true; late = before.late || before.ended; last = 0 }

-- after a read of a buffer with this room that came to this
abbrev pub asked_on : {E : Type 0} → Asked → ℕ → Result ℕ E → Asked
asked_on before room (Ok n) = given_more before room n
asked_on before room (Err failed) = given_none before

-- nothing was written or flushed yet
abbrev pub untried : Tried
untried = record { failed = false; late = false; flushed = false }

-- after a write that did not fail
abbrev pub written_more : Tried → Tried
written_more before = record { failed = before.failed; late = before.late || before.failed; flushed = false }

-- after a flush that did not fail
abbrev pub flushed_more : Tried → Tried
flushed_more before = record { failed = before.failed; late = before.late || before.failed; flushed = true }

-- after a write or a flush that failed
abbrev pub tried_in_vain : Tried → Tried
tried_in_vain before = record { failed = true; late = before.late || before.failed; flushed = false }

-- after a write that came to this
abbrev pub written_on : {E : Type 0} → Tried → Result ℕ E → Tried
written_on before (Ok n) = written_more before
written_on before (Err failed) = tried_in_vain before

-- after a flush that came to this
abbrev pub flushed_on : {E : Type 0} → Tried → Result (Unit {0}) E → Tried
flushed_on before (Ok done) = flushed_more before
flushed_on before (Err failed) = tried_in_vain before

-- behind a failure nothing is written or flushed, and an Ok comes without one
pub record StopsTrying {T E : Type 0} (before now : Tried) (result : Result T E) : Type 0 where
  pub in_time : before.failed ≡ false → now.late ≡ before.late
  pub well : OnOk result (now.failed ≡ before.failed)

-- what a sink tells: the bytes written so far, and how many of them were flushed
pub record Told : Type 0 where
  pub written : List ℕ
  pub flushed : ℕ

-- these bytes were appended and none was flushed; nothing is said of a sink that does not tell its bytes
abbrev pub Appends : Option Told → Option Told → List ℕ → Type 0
Appends old None bytes = ⊤
Appends old (Some now) bytes = (before : Told) × (old ≡ Some before)
    × (now.written ≡ before.written ++ bytes) × (now.flushed ≡ before.flushed)

-- all bytes written so far were flushed, and none was written
abbrev pub Flushes : Option Told → Option Told → Type 0
Flushes old None = ⊤
Flushes old (Some now) = (before : Told) × (old ≡ Some before)
    × (now.written ≡ before.written) × (now.flushed ≡ length before.written)

-- a write appends the first bytes of the piece, and a failed write none
abbrev pub Writes : {E : Type 0} → Option Told → Option Told → Result ℕ E → List ℕ → Type 0
Writes old new result piece =
    MatchResult result (λ n. Appends old new (take n piece)) (λ _. Appends old new [])

-- a flush flushes all, and a failed one nothing
abbrev pub FlushesAll : {E : Type 0} → Option Told → Option Told → Result (Unit {0}) E → Type 0
FlushesAll old new result = MatchResult result (λ _. Flushes old new) (λ _. Appends old new [])
