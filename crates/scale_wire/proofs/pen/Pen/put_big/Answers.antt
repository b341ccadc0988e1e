use Rattle.std.proofs.Common.{ℕ, List, ◌∙◌, subst}
use Rattle.std.specs.Int.{w64}
use Rattle.scale_wire.specs.LittleEndianLaws.{to_le_bytes-little_endian}
use Rattle.scale_wire.specs.Writing.{Appends}
use Rattle.scale_wire.proofs.PenLemmas.{big_written}
use Rattle.scale_wire.proofs.pen.Pen.put_big.Goals as goal

pub returns : goal.returns
returns c =
    subst (λ (bytes : List ℕ). Appends bytes c.put_bytes.result c.args.self.now c.put_bytes.new.self)
    (big_written c.args.value c.byte_count-count.result c.copy_from_slice.new.self c.requires c.byte_count-count.ensures.count
    c.byte_count-count.ensures.few
    (c.copy_from_slice.ensures.after ∙ (c.to_le_bytes.ensures ∙ to_le_bytes-little_endian w64 c.args.value)))
    c.put_bytes.ensures
