use Rattle.std.proofs.Common.{◌≡◌, ◌-◌, ◌+◌, ◌≤◌, ◌^◌, ◌<◌, ℕ, [], ◌∷◌, ◌++◌, drop, decimal, length, slice_set, arith, ap, ap₂, length-append, length-set, take_all, refl, sym, ◌∙◌}
use Rattle.std.proofs.lemmas.Fmt.{length-decimal-le}
use Rattle.std.proofs.lemmas.List.{drop-set}
use Rattle.hex.specs.Hex.{lower_digits}
use Rattle.npos_base.specs.Account.{account_bytes}
use Rattle.hex.proofs.HexLemmas.{length-encode_with}
use borrow.Rule.Slice.PartMut.{put_mid}
use Rattle.told_lines.specs.Texts.{account_text, amount_text}
use Rattle.told_lines.proofs.PutLemmas.{behind_put, before, long_put}
use Rattle.told_lines.proofs.whole.tell_amount.Goals as goal

short : (n : ℕ) → n < 2 ^ 64 → length (decimal n) ≤ 20
short n h = length-decimal-le 20 n (omega arith) (omega arith) h

pub write_digits-blank-requires : goal.write_digits-blank-requires
write_digits-blank-requires g c =
    let few = short c.args.amount c.ranges.amount.fits in
    (omega (arith, few), omega arith)

pub overflow_sub-blank : goal.overflow_sub-blank
overflow_sub-blank g c =
    let few = short c.args.amount c.ranges.amount.fits in
    let start = c.write_digits-blank.ensures.start in
    omega (arith, few, start)

pub overflow_sub-account : goal.overflow_sub-account
overflow_sub-account g c =
    let few = short c.args.amount c.ranges.amount.fits in
    let start = c.write_digits-blank.ensures.start in
    omega (arith, few, start)

pub write_account-requires : goal.write_account-requires
write_account-requires g c =
    let few = short c.args.amount c.ranges.amount.fits in
    let start = c.write_digits-blank.ensures.start in
    let blank = c.write_digits-blank.result - 1 in
    let buf = c.write_digits-blank.new.buf in
    before 64 blank (slice_set buf blank 32) (omega (arith, few, start))
    (omega (arith, few, start, length-set buf blank 32))

pub overflow_sub-start : goal.overflow_sub-start
overflow_sub-start g c =
    let few = short c.args.amount c.ranges.amount.fits in
    let start = c.write_digits-blank.ensures.start in
    omega (arith, few, start, c.requires.few)

pub copy_from_slice-requires : goal.copy_from_slice-requires
copy_from_slice-requires g c =
    let few = short c.args.amount c.ranges.amount.fits in
    let start = c.write_digits-blank.ensures.start in
    let blank = c.write_digits-blank.result - 1 in
    let account = blank - 64 in
    let buf = c.write_digits-blank.new.buf in
    let line = slice_set buf blank 32 in
    let digits = c.write_account.new.digits in
    let size : length digits ≡ 64 =
    ap length c.write_account.ensures ∙ length-encode_with lower_digits (account_bytes c.args.who) in
    let same = long_put account (blank - account) line digits (omega (arith, few, start, length-set buf blank 32)) (omega (arith, few, start, size)) in
    before g.row.N account (put_mid account (blank - account) line digits) (omega (arith, few, start, c.requires.few))
    (omega (arith, few, start, same, length-set buf blank 32))
    ∙ sym c.told-words

pub returns-clause-text : goal.returns-clause-text
returns-clause-text g c =
    let few = short c.args.amount c.ranges.amount.fits in
    let first = c.write_digits-blank.ensures.start in
    let blank = c.write_digits-blank.result - 1 in
    let account = blank - 64 in
    let start = account - g.row.N in
    let buf = c.write_digits-blank.new.buf in
    let line = slice_set buf blank 32 in
    let digits = c.write_account.new.digits in
    let within : blank ≤ length line = omega (arith, few, first, length-set buf blank 32) in
    let behind : c.write_digits-blank.result - 1 + 1 ≡ c.write_digits-blank.result =
    omega (arith, few, first) in
    let amount : drop blank line ≡ amount_text c.args.amount =
    drop-set buf blank 32 (omega (arith, few, first))
    ∙ ap (λ l. 32 ∷ l) (rw behind c.write_digits-blank.ensures.written) in
    let seam : account + (blank - account) ≡ blank = omega (arith, few, first) in
    let rest = account_text c.args.who ++ amount_text c.args.amount in
    let put = put_mid account (blank - account) line digits in
    let told : drop account put ≡ rest =
    behind_put account (blank - account) line digits (omega (arith, within))
    ∙ ap₂ (λ l m. l ++ m) c.write_account.ensures (ap (λ n. drop n line) seam ∙ amount) in
    let size : length digits ≡ 64 =
    ap length c.write_account.ensures ∙ length-encode_with lower_digits (account_bytes c.args.who) in
    let same = long_put account (blank - account) line digits (omega (arith, within, seam)) (omega (arith, few, first, size)) in
    let words = c.copy_from_slice.new.self in
    let edge : start + (account - start) ≡ account = omega (arith, few, first, c.requires.few) in
    let whole : drop start (put_mid start (account - start) put words) ≡ c.args.words.now ++ rest =
    behind_put start (account - start) put words (omega (arith, within, same))
    ∙ ap₂ (λ l m. l ++ m) c.copy_from_slice.ensures.after (ap (λ n. drop n put) edge ∙ told) in
    let long : length (c.args.words.now ++ rest) ≤ 94 - start = omega (
      arith,
      few,
      first,
      c.requires.few,
      c.told-words,
      length-append c.args.words.now rest,
      length-append (account_text c.args.who)
          (amount_text c.args.amount),
      length-append (decimal c.args.amount) (10 ∷ []),
      length-encode_with lower_digits
          (account_bytes c.args.who),
    ) in
    rw (c.in_ok-extend_from_slice.ensures.items, whole, take_all (94 - start) (c.args.words.now ++ rest) long) refl
