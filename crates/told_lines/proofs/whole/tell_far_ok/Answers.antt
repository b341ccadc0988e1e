use Rattle.std.proofs.Common.{◌≡◌, ◌-◌, ◌+◌, ◌≤◌, ◌^◌, ◌<◌, ℕ, List, ◌++◌, drop, decimal, codes, length, arith, ap, ap₂, length-append, length-drop, take_all, refl, ◌∙◌}
use Rattle.std.proofs.lemmas.Fmt.{length-decimal-le}
use borrow.Rule.Slice.PartMut.{put_mid}
use Rattle.told_lines.specs.Texts.{ok_line}
use Rattle.told_lines.proofs.PutLemmas.{behind_put, before}
use Rattle.told_lines.proofs.whole.tell_far_ok.Goals as goal

short : (n : ℕ) → n < 2 ^ 32 → length (decimal n) ≤ 10
short n h = length-decimal-le 10 n (omega arith) (omega (arith, h)) (omega (arith, h))

-- the line as long as it is written
long : (start number : ℕ) (line : List ℕ) → drop start line ≡ decimal number ++ codes " ok\n" → start ≤ length line
long start number line written = omega (arith, length-drop start line, ap length written, length-append (decimal number) (codes " ok\n"))

pub write_digits-digits-requires : goal.write_digits-digits-requires
write_digits-digits-requires c =
    let few = short c.args.index c.ranges.index.fits in
    (rw c.from.ensures (omega (arith, few)), omega arith)

pub overflow_sub-line : goal.overflow_sub-line
overflow_sub-line c =
    let few = short c.args.index c.ranges.index.fits in
    omega (arith, few, c.write_digits-digits.ensures.start, ap (λ n. length (decimal n)) c.from.ensures)

pub copy_from_slice-requires : goal.copy_from_slice-requires
copy_from_slice-requires c =
    let few = short c.args.index c.ranges.index.fits in
    before 5 c.write_digits-digits.result c.write_digits-digits.new.buf
    (omega (arith, few, c.write_digits-digits.ensures.start, ap (λ n. length (decimal n)) c.from.ensures))
    (long c.write_digits-digits.result c.from.result c.write_digits-digits.new.buf c.write_digits-digits.ensures.written)

pub returns-clause-text : goal.returns-clause-text
returns-clause-text c =
    let few = short c.args.index c.ranges.index.fits in
    let start = c.write_digits-digits.ensures.start in
    let same = ap (λ n. length (decimal n)) c.from.ensures in
    let at = c.write_digits-digits.result in
    let line = c.write_digits-digits.new.buf in
    let within : at ≤ length line = long at c.from.result line c.write_digits-digits.ensures.written in
    let seam : at - 5 + (at - (at - 5)) ≡ at = omega (arith, few, start, same) in
    let whole : drop (at - 5) (put_mid (at - 5) (at - (at - 5)) line c.copy_from_slice.new.self)
    ≡ ok_line c.args.index =
    behind_put (at - 5) (at - (at - 5)) line c.copy_from_slice.new.self (omega (arith, within))
    ∙ ap₂ (λ l m. l ++ m) c.copy_from_slice.ensures.after (ap (λ n. drop n line) seam
    ∙ c.write_digits-digits.ensures.written ∙ ap (λ n. decimal n ++ codes " ok\n") c.from.ensures) in
    let fits : length (ok_line c.args.index) ≤ 19 - (at - 5) = omega (arith, few, start, same, length-append (decimal c.args.index) (codes " ok\n")) in
    rw (c.in_ok-extend_from_slice.ensures.items, whole, take_all (19 - (at - 5)) (ok_line c.args.index) fits) refl
