use Rattle.std.proofs.Common.{◌≡◌, ℕ, ◌%◌, [], ◌∷◌, subst, arith}
use Rattle.scale_wire.specs.LittleEndian.{little_endian}
use Rattle.scale_wire.specs.Writing.{Appends}
use Rattle.scale_wire.proofs.pen.Pen.put_u8.Goals as goal

pub returns : goal.returns
unfolding little_endian
returns c =
    let whole : c.args.value ≡ c.args.value % 256 = omega arith in
    subst (λ (byte : ℕ). Appends (byte ∷ []) c.put_bytes.result c.args.self.now c.put_bytes.new.self) whole c.put_bytes.ensures
