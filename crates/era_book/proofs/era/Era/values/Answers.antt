use Rattle.std.proofs.Common.{ap, ◌∙◌, map, arith}
use Rattle.std.proofs.lemmas.List.{take_all}
use Rattle.std.specs.Map.{values_of}
use Rattle.era_book.specs.declared.record.MemberRecord.{MemberRecord}
use Rattle.era_book.specs.declared.seat.Seat.{Seat}
use Rattle.era_book.specs.Members.{Members}
use Rattle.era_book.specs.Records.{record_of}
use Rattle.era_book.specs.Seats.{member_seen}
use Rattle.era_book.proofs.RecordLemmas.{seats_told}
use Rattle.era_book.proofs.era.Era.values.Goals as goal

pub returns : goal.returns
returns c =
    let tell : Seat → MemberRecord = λ seat. record_of (member_seen c.self.inside.accounts seat) in
    c.into_list.ensures
    ∙ (c.loop-seat.invariant.made
    ∙ (ap (map tell) (take_all c.loop-seat.seat-index c.as_slice-seat-items.result.now (omega (arith, c.loop-seat-test.false)))
    ∙ (ap (map tell) c.as_slice-seat-items.ensures
    ∙ (seats_told c.self.inside.accounts c.self.inside.members
    ∙ ap (λ (members : Members). map record_of (values_of members)) c.self.view_is))))
