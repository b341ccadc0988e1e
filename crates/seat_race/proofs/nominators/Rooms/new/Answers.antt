use Rattle.std.proofs.Common.{rules, arith, ◌≡◌, ◌∙◌, ◌^◌, ◌<◌, length, take, ap}
use Rattle.seat_race.specs.Tables.{says}
use Rattle.seat_race.proofs.PartLemmas.{empty_rooms, said}
use Rattle.seat_race.proofs.nominators.Rooms.new.Goals as goal

pub returns-clause-rooms : goal.returns-clause-rooms
returns-clause-rooms c =
    let starts = c.in_ok-starts.starts.items in
    let sizes = c.args.sizes.now in
    let last : c.index-last.result.now ≡ says starts (length sizes)
    = said starts (length sizes) c.index-last.result.now (omega (arith, c.in_ok-starts.ensures.count)) c.index-last.ensures in
    let size : length c.in_ok-items.items.items ≡ c.index-last.result.now = search rules in
    let fits : c.index-last.result.now < 2 ^ 32 = search rules in
    empty_rooms c.in_ok-items.items.items starts sizes c.in_ok-nexts.nexts.items c.in_ok-starts.ensures.count c.in_ok-starts.ensures.sizes
    (size ∙ last)
    (omega (arith, fits, last))
    (c.in_ok-nexts.ensures.items ∙ ap (take (length sizes)) c.deref.ensures.value)
