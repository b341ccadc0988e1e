use Rattle.std.proofs.Common.{ℕ, ◌/◌, ap, ◌∙◌}
use Rattle.scale_wire.proofs.Modes.{two_number, two_long, two_none}
use Rattle.scale_wire.proofs.compact.two_bytes.Goals as goal

pub returns-then-number : goal.returns-then-number
returns-then-number c =
    two_long c.from_le_bytes-number.result c.args.bytes.now c.if-bytes-lt2.false
    (c.from_le_bytes-number.ensures ∙ two_number c.args.bytes.now c.if-bytes-lt2.false) c.if-number.true

pub returns-else-number : goal.returns-else-number
returns-else-number c =
    let number_is = c.from_le_bytes-number.ensures ∙ two_number c.args.bytes.now c.if-bytes-lt2.false in (
      two_none c.from_le_bytes-number.result c.args.bytes.now c.if-bytes-lt2.false number_is c.if-number.false,
      c.from.ensures ∙ ap (λ (n : ℕ). n / 4) number_is,
    )
