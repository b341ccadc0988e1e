use Rattle.std.proofs.Common.{ℕ, ◌+◌, ◌^◌, sym, subst, arith}
use Rattle.scale_wire.specs.CompactRange.{Suits}
use Rattle.scale_wire.specs.CompactLaws.{suits_u32}
use Rattle.scale_wire.proofs.PartLemmas.{suits_within}
use Rattle.scale_wire.proofs.cursor.Cursor.take_compact_u32.Goals as goal

pub take_compact-requires : goal.take_compact-requires
take_compact-requires c = subst (λ (n : ℕ). Suits 4 (n + 1) 9) (sym c.from.ensures) (suits_within 4 (2 ^ 32) 5 suits_u32 (omega arith))
