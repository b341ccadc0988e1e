use Rattle.scale_wire.specs.CompactLaws.{suits_u64}
use Rattle.scale_wire.proofs.cursor.Cursor.take_compact_u64.Goals as goal

pub take_compact-requires : goal.take_compact-requires
take_compact-requires c = suits_u64
