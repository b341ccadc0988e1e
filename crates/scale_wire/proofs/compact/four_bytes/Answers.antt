use Rattle.std.proofs.Common.{ℕ, ◌/◌, ap, ◌∙◌}
use Rattle.scale_wire.proofs.Modes.{four_number, four_long, four_none}
use Rattle.scale_wire.proofs.compact.four_bytes.Goals as goal

pub returns-then-number : goal.returns-then-number
returns-then-number c =
    four_long c.from_le_bytes-number.result c.args.bytes.now c.if-bytes-lt4.false
    (c.from_le_bytes-number.ensures ∙ four_number c.args.bytes.now c.if-bytes-lt4.false) c.if-number.true

pub returns-else-number : goal.returns-else-number
returns-else-number c =
    let number_is = c.from_le_bytes-number.ensures ∙ four_number c.args.bytes.now c.if-bytes-lt4.false in (
      four_none c.from_le_bytes-number.result c.args.bytes.now c.if-bytes-lt4.false number_is c.if-number.false,
      c.from.ensures ∙ ap (λ (n : ℕ). n / 4) number_is,
    )
