-- Sources and sinks in memory, whose failures are chosen by the number of the call.
use Rattle.std.specs.Prelude.{ℕ, ◌+◌, ◌^◌, min, Bool, false, ◌||◌, ◌&&◌, nat_eq, nat_lt, if◌then◌else◌, List, [], ◌++◌, length, take, drop, Option, Some, None, Result, Ok, Err}
use Rattle.std.specs.List.{list_any}
use Rattle.npos_base.specs.declared.outside.Failed.{Failed}
use Rattle.npos_base.specs.declared.outside.Asked.{Asked}
use Rattle.npos_base.specs.declared.outside.Tried.{Tried}
use Rattle.npos_base.specs.Outside.{Told, one_more, asked_on, written_on, flushed_on}

-- the number of the call after this one; the calls after the first 2^64 have none
abbrev pub next_call : Option ℕ → Option ℕ
next_call None = None
next_call (Some number) = if nat_lt (number + 1) (2 ^ 64) then Some (number + 1) else None

-- the number stands among those that fail
abbrev pub is_failing : List ℕ → Option ℕ → Bool
is_failing failing None = false
is_failing failing (Some number) = list_any (λ other. nat_eq other number) failing

-- a source in memory
pub record Input : Type 0 where
  pub left : List ℕ
  -- the most bytes that one read gives
  pub most : ℕ
  -- the numbers of the reads that fail
  pub failing : List ℕ
  -- the number of the next read
  pub next : Option ℕ
  pub faults : ℕ
  pub asked : Asked

-- how many bytes a read that does not fail puts into a buffer with this room
abbrev pub given_count : Input → ℕ → ℕ
given_count input room = min (min input.most room) (length input.left)

abbrev pub read_answer : Input → ℕ → Result ℕ Failed
read_answer input room =
    if is_failing input.failing input.next then Err record {} else Ok (given_count input room)

-- the source after a read into a buffer with this room
abbrev pub after_read : Input → ℕ → Input
after_read input room =
    let fails = is_failing input.failing input.next in
    record input {
      left = if fails then input.left else drop (given_count input room) input.left;
      next = next_call input.next;
      faults = if fails then one_more input.faults else input.faults;
      asked = asked_on input.asked room (read_answer input room);
    }

-- a sink in memory
pub record Output : Type 0 where
  pub written : List ℕ
  pub flushed : ℕ
  -- how many more bytes it takes
  pub spare : ℕ
  -- the most bytes that one write takes
  pub most : ℕ
  -- the numbers of the writes and flushes that fail
  pub failing : List ℕ
  -- the number of the next write or flush
  pub next : Option ℕ
  pub faults : ℕ
  pub tried : Tried

-- a write fails where its number is among the failing, or where there are bytes and no spare
abbrev pub write_fails : Output → List ℕ → Bool
write_fails output piece =
    is_failing output.failing output.next || (nat_eq output.spare 0 && nat_lt 0 (length piece))

abbrev pub taken_count : Output → List ℕ → ℕ
taken_count output piece = min (min output.most (length piece)) output.spare

abbrev pub write_answer : Output → List ℕ → Result ℕ Failed
write_answer output piece = if write_fails output piece then Err record {} else Ok (taken_count output piece)

-- what the sink tells
abbrev pub told_of : Output → Option Told
told_of output = Some record { written = output.written; flushed = output.flushed }

-- the sink after the write of a piece, which leaves it some spare
abbrev pub after_write : Output → List ℕ → ℕ → Output
after_write output piece spare =
    let fails = write_fails output piece in
    record output {
      written = output.written ++ (if fails then [] else take (taken_count output piece) piece);
      spare = spare;
      next = next_call output.next;
      faults = if fails then one_more output.faults else output.faults;
      tried = written_on output.tried (write_answer output piece);
    }

abbrev pub flush_answer : Output → Result (Unit {0}) Failed
flush_answer output = if is_failing output.failing output.next then Err record {} else Ok tt

-- the sink after a flush
abbrev pub after_flush : Output → Output
after_flush output =
    let fails = is_failing output.failing output.next in
    record output {
      flushed = if fails then output.flushed else length output.written;
      next = next_call output.next;
      faults = if fails then one_more output.faults else output.faults;
      tried = flushed_on output.tried (flush_answer output);
    }
