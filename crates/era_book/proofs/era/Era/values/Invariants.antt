use Rattle.std.proofs.Common.{◌≡◌, ◌≤◌, ◌+◌, length, map, take}
use Rattle.era_book.specs.declared.record.MemberRecord.{MemberRecord}
use Rattle.era_book.specs.declared.seat.Seat.{Seat}
use Rattle.era_book.specs.Records.{record_of}
use Rattle.era_book.specs.Seats.{member_seen}
use Rattle.era_book.proofs.era.Era.values.Given as goal

-- the values are what is told of the seats so far, and there is room for the others
abbrev pub invariant-loop-seat : goal.invariant-loop-seat
invariant-loop-seat l =
    let tell : Seat → MemberRecord = λ seat. record_of (member_seen l.self-inside.accounts seat) in
    record {
      made : l.values.items ≡ map tell (take l.seat-index l.seat-items);
      spare : length l.seat-items ≤ l.values.spare + l.seat-index;
    }
