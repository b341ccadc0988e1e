use Rattle.std.proofs.Common.{ℕ, List, ◌+◌, ◌*◌, ◌∙◌, subst}
use Rattle.std.specs.Int.{w16}
use Rattle.scale_wire.specs.LittleEndianLaws.{to_le_bytes-little_endian}
use Rattle.scale_wire.specs.Writing.{Appends}
use Rattle.scale_wire.proofs.PenLemmas.{one_written, two_written, four_written}
use Rattle.scale_wire.proofs.pen.Pen.put_compact.Goals as goal

pub returns-then-value : goal.returns-then-value
returns-then-value c =
    subst (λ (bytes : List ℕ). Appends bytes c.put_u8.result c.args.self.now c.put_u8.new.self)
    (one_written c.args.value c.if-value.true) c.put_u8.ensures

pub returns-then-value-2 : goal.returns-then-value-2
returns-then-value-2 c =
    subst (λ (bytes : List ℕ). Appends bytes c.put_bytes.result c.args.self.now c.put_bytes.new.self)
    (c.to_le_bytes.ensures ∙ (to_le_bytes-little_endian w16 (c.args.value * 4 + 1)
    ∙ two_written c.args.value c.if-value.false c.if-value-2.true))
    c.put_bytes.ensures

pub returns-then-value-3 : goal.returns-then-value-3
returns-then-value-3 c =
    subst (λ (bytes : List ℕ). Appends bytes c.put_u32.result c.args.self.now c.put_u32.new.self)
    (four_written c.args.value c.if-value-2.false c.if-value-3.true) c.put_u32.ensures
