use Rattle.std.proofs.Common.{ℕ, List, ◌∙◌, subst}
use Rattle.std.specs.Int.{w32}
use Rattle.scale_wire.specs.LittleEndianLaws.{to_le_bytes-little_endian}
use Rattle.scale_wire.specs.Writing.{Appends}
use Rattle.scale_wire.proofs.pen.Pen.put_u32.Goals as goal

pub returns : goal.returns
returns c =
    subst (λ (bytes : List ℕ). Appends bytes c.put_bytes.result c.args.self.now c.put_bytes.new.self)
    (c.to_le_bytes.ensures ∙ to_le_bytes-little_endian w32 c.args.value) c.put_bytes.ensures
