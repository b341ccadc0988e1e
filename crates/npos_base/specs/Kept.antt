-- A source of bytes at hand, and a sink with room for a fixed number of bytes.
use Rattle.std.specs.Prelude.{ℕ, ◌+◌, ◌-◌, ◌^◌, min, nat_eq, if◌then◌else◌, List, ◌++◌, length, take, drop, Option, Some, None}
use Rattle.npos_base.specs.declared.outside.Asked.{Asked}
use Rattle.npos_base.specs.declared.outside.Tried.{Tried}
use Rattle.npos_base.specs.Outside.{Told, given_more, written_more}

-- the bytes that are left, and what was asked of the source that has them
pub record Plain : Type 0 where
  pub left : List ℕ
  pub asked : Asked

-- the source after a read into a buffer with this room
abbrev pub after_giving : Plain → ℕ → Plain
after_giving source room = record {
  left = drop room source.left;
  asked = given_more source.asked room (min room (length source.left));
}

-- the first bytes written, as many as the room takes, and how many were past it, up to 2^64 - 1
pub record Kept : Type 0 where
  pub kept : List ℕ
  pub room : ℕ
  pub past : ℕ
  pub flushed : ℕ
  pub tried : Tried

-- the bytes are told while all of them fit
abbrev pub kept_told : Kept → Option Told
kept_told sink =
    if nat_eq sink.past 0 then Some record { written = sink.kept; flushed = sink.flushed } else None

-- how many bytes the sink still keeps
abbrev pub spare_room : Kept → ℕ
spare_room sink = sink.room - length sink.kept

-- the sink after the write of a piece, which it takes whole
abbrev pub after_keeping : Kept → List ℕ → Kept
after_keeping sink piece = record sink {
  kept = sink.kept ++ take (spare_room sink) piece;
  past = min (sink.past + length (drop (spare_room sink) piece)) (2 ^ 64 - 1);
  tried = written_more sink.tried;
}
