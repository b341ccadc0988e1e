use Rattle.std.proofs.Common.{◌∙◌}
use Rattle.std.specs.Int.{w32}
use Rattle.scale_wire.specs.LittleEndianLaws.{from_le_bytes-number_from}
use Rattle.scale_wire.proofs.PartLemmas.{fixed_read}
use Rattle.scale_wire.proofs.cursor.Cursor.take_u32.Goals as goal

pub returns : goal.returns
returns c =
    fixed_read 4 c.args.self.now c.take_array.new.self c.in_ok-take_array.field-0 c.from_le_bytes.result c.in_ok-take_array.ensures
    (c.from_le_bytes.ensures ∙ from_le_bytes-number_from w32 c.in_ok-take_array.field-0 c.in_ok-take_array.ensures.in_range.0)
