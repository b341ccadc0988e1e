use Rattle.std.proofs.Common.{arith, length}
use Rattle.seat_race.proofs.PartLemmas.{parted_count, are_parted}
use Rattle.seat_race.proofs.nominators.Nominators.new.Goals as goal

pub returns-clause-count : goal.returns-clause-count
returns-clause-count c =
    let rooms = c.list_nominators.new.rooms in
    parted_count rooms.items.items rooms.starts.items (length c.args.snapshot.now.targets) (omega (arith, c.list_nominators.ensures.rooms.starts_are, c.list_nominators.ensures.count))

pub returns-clause-nominators : goal.returns-clause-nominators
returns-clause-nominators c =
    let rooms = c.list_nominators.new.rooms in
    are_parted c.args.snapshot.now rooms.items.items rooms.starts.items rooms.nexts.items
    c.list_nominators.ensures.rooms c.list_nominators.ensures.count c.list_nominators.ensures.full
    c.list_nominators.ensures.lists
