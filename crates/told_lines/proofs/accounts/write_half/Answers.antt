use Rattle.std.proofs.Common.{rules, arith, ◌≡◌, ◌+◌, ◌-◌, ◌*◌, ◌++◌, ◌≤◌, ◌∙◌, ap, subst, take, drop, length}
use Rattle.hex.specs.Hex.{encode_lower, lower_digits}
use Rattle.hex.proofs.Pairs.{encode_done}
use Rattle.told_lines.proofs.DigitLemmas.{four_more}
use Rattle.told_lines.proofs.PutLemmas.{long_put}
use Rattle.told_lines.proofs.accounts.write_half.Goals as goal

pub loop-i-preserved : goal.loop-i-preserved
loop-i-preserved c =
    let i = c.loop-i.i in
    let bytes = c.to_be_bytes-bytes.result in
    let part = c.copy_from_slice.new.self in
    let from : 2 * (4 * i) ≡ 8 * i = omega arith in
    let width : 2 * (4 * i) + 8 - 2 * (4 * i) ≡ 8 = omega arith in
    let are : part ≡ c.digits_of-four.result = search rules in
    let size : length part ≡ 8 = search rules in
    let within : 8 * i + 8 ≤ length c.loop-i.digits = omega (arith, c.loop-i.invariant.0) in
    rw (width, from) (
      long_put (8 * i) 8 c.loop-i.digits part within size ∙ c.loop-i.invariant.0,
      four_more bytes c.loop-i.digits part i (omega arith) within (are ∙ c.digits_of-four.ensures) c.loop-i.invariant.1,
    )

pub returns : goal.returns
returns c =
    let i = c.loop-i.i in
    let bytes = c.to_be_bytes-bytes.result in
    let all : 8 * i ≡ 2 * (4 * i) = omega arith in
    let so_far = subst (λ n. take n c.loop-i.digits ++ encode_lower (drop (4 * i) bytes) ≡ encode_lower bytes) all c.loop-i.invariant.1 in
    encode_done lower_digits bytes c.loop-i.digits (4 * i) (omega arith) (omega (arith, c.loop-i.invariant.0)) so_far
    ∙ ap encode_lower c.to_be_bytes-bytes.ensures
