use Rattle.std.proofs.Common.{◌≡◌, ◌++◌, length, arith, ap, ap₂, sym, length-take, drop, ◌∙◌}
use Rattle.std.specs.Int.{w128, to_be_bytes}
use Rattle.hex.specs.Hex.{lower_digits}
use Rattle.hex.proofs.HexLemmas.{length-encode_with}
use Rattle.told_lines.proofs.DigitLemmas.{digits_behind}
use Rattle.told_lines.proofs.PutLemmas.{over_the_rest}
use Rattle.told_lines.proofs.accounts.write_account.Goals as goal

pub slice_bounds-write_half-end-2 : goal.slice_bounds-write_half-end-2
slice_bounds-write_half-end-2 c = omega (arith, length-take 32 c.args.digits.now, c.requires)

pub returns : goal.returns
returns c =
    let high = to_be_bytes w128 c.args.who.hi in
    let low = to_be_bytes w128 c.args.who.lo in
    let size : length c.write_half.new.digits ≡ 32 =
    ap length c.write_half.ensures ∙ length-encode_with lower_digits high in
    over_the_rest 32 c.write_half.new.digits (drop 32 c.args.digits.now) c.write_half-2.new.digits size
    ∙ ap₂ (λ l m. l ++ m) c.write_half.ensures c.write_half-2.ensures
    ∙ sym (digits_behind high low)
