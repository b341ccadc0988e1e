use Rattle.std.proofs.Common.{◌≡◌, ◌*◌, ◌++◌, length, take, drop}
use Rattle.hex.specs.Hex.{encode_lower}
use Rattle.told_lines.proofs.accounts.write_half.Given as goal

-- the digits of the bytes so far are written
abbrev pub invariant-loop-i : goal.invariant-loop-i
invariant-loop-i l = (length l.digits ≡ 32)
    × (take (8 * l.i) l.digits ++ encode_lower (drop (4 * l.i) l.bytes) ≡ encode_lower l.bytes)
