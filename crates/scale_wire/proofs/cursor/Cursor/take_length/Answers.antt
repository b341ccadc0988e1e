use Rattle.std.proofs.Common.{subst}
use Rattle.scale_wire.specs.Reading.{Place, IsRead}
use Rattle.scale_wire.specs.Parts.{compact_u32}
use Rattle.scale_wire.proofs.PartLemmas.{over_limit}
use Rattle.scale_wire.proofs.cursor.Cursor.take_length.Goals as goal

pub returns-else-length-limit : goal.returns-else-length-limit
returns-else-length-limit c =
    over_limit c.args.limit c.args.self.now c.take_compact_u32.new.self c.in_ok-length.length c.fault.result c.ranges.limit.fits
    (subst (λ (p : Place). IsRead compact_u32 p c.in_ok-length.length c.take_compact_u32.new.self) c.fork-here.ensures c.in_ok-length.ensures)
    c.if-length-limit.false c.fault.ensures
