use Rattle.std.proofs.Common.{slice_index_or}
use Rattle.scale_wire.proofs.PartLemmas.{fixed_read, only_byte}
use Rattle.scale_wire.proofs.cursor.Cursor.take_u8.Goals as goal

pub returns : goal.returns
returns c =
    fixed_read 1 c.args.self.now c.take_array.new.self c.in_ok-byte.field-0 (slice_index_or c.in_ok-byte.field-0 0 0) c.in_ok-byte.ensures
    (only_byte c.in_ok-byte.field-0 c.in_ok-byte.ensures.in_range.0)
