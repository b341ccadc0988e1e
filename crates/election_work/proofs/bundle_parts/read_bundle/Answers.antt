use Rattle.election_work.specs.declared.bundle_parts.Parts.{Parts}
use Rattle.election_work.proofs.ReadingLemmas.{bundle_read}
use Rattle.election_work.proofs.bundle_parts.read_bundle.Goals as goal

pub returns : goal.returns
returns c =
    let parts : Parts = record { seats = c.in_ok-seats.seats; growing = c.in_ok-growing.growing; work = c.in_ok-growing.work } in
    bundle_read parts c.args.cursor.now c.fork-here.result c.take_compact_u32.new.self c.read_behind_seats.new.cursor c.fork-here.ensures c.in_ok-seats.ensures c.in_ok-growing.ensures
