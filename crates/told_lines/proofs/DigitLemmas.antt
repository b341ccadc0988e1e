-- Digits in hexadecimal.
use Rattle.std.proofs.Common.{◌≡◌, ℕ, zero, suc, ◌+◌, ◌-◌, ◌*◌, ◌/◌, ◌%◌, ◌<◌, ◌≤◌, nat_lt, length, take, drop}
use Rattle.std.proofs.Common.{get_or, length-append, length-take-le, take_at, ◌∙◌, sym, Bool, true, ◌&&◌, T, eqb}
use Rattle.std.proofs.Common.{List, [], ◌∷◌, ◌++◌, slice_index, refl, ap, inl, inr, arith, eq-zero-or-pos, eqb→eq}
use Rattle.std.specs.Int.{w64, to_le_bytes}
use Rattle.std.proofs.lemmas.Grind.{common_steps}
use Rattle.std.proofs.lemmas.List.{append_assoc, drop_more}
use Rattle.std.proofs.lemmas.Nat.{le_bytes_8}
use borrow.Rule.Slice.PartMut.{put_mid}
use Rattle.hex.specs.Hex.{encode_lower, encode_with, lower_digits}
use Rattle.told_lines.specs.declared.accounts.TheConstants.{PAIRS}
use lib.Ieee.Fits.{and_l, and_r}

-- the digits of bytes that stand behind others
pub digits_behind : (bytes more : List ℕ)
    → encode_lower (bytes ++ more) ≡ encode_lower bytes ++ encode_lower more
unfolding encode_with
digits_behind [] more = refl
digits_behind (byte ∷ bytes) more =
    ap (λ digits. slice_index lower_digits (byte / 16) ∷ slice_index lower_digits (byte % 16) ∷ digits)
    (digits_behind bytes more)

-- whether the table has the digits of all bytes below this one
abbrev are_pairs : ℕ → Bool
are_pairs zero = true
are_pairs (suc byte) =
    (eqb (slice_index PAIRS (2 * byte)) (slice_index lower_digits (byte / 16))
    && eqb (slice_index PAIRS (2 * byte + 1)) (slice_index lower_digits (byte % 16)))
    && are_pairs byte

pairs_below : (count byte : ℕ) → T (are_pairs count) → byte < count
    → (slice_index PAIRS (2 * byte) ≡ slice_index lower_digits (byte / 16))
    × (slice_index PAIRS (2 * byte + 1) ≡ slice_index lower_digits (byte % 16))
pairs_below zero byte all below = absurd (omega arith)
pairs_below (suc count) byte all below =
    elim (eq-zero-or-pos (count - byte)) [
      | inl none ↦ let here : byte ≡ count = omega arith in let both = and_l _ (are_pairs count) all in rw here (eqb→eq _ _ (and_l _ _ both), eqb→eq _ _ (and_r _ _ both))
      | inr some ↦ pairs_below count byte (and_r _ (are_pairs count) all) (omega arith)
    ]

-- the table has the two digits of each byte
pub pairs_at : (byte : ℕ) → byte < 256
    → (slice_index PAIRS (2 * byte) ≡ slice_index lower_digits (byte / 16))
    × (slice_index PAIRS (2 * byte + 1) ≡ slice_index lower_digits (byte % 16))
pairs_at byte below = pairs_below 256 byte tt below

-- no digit is beyond a byte
digit_small : (digit : ℕ) → slice_index lower_digits digit < 256
digit_small digit = within lower_digits digit tt where
  are_bytes : List ℕ → Bool
  are_bytes [] = true
  are_bytes (byte ∷ bytes) = nat_lt byte 256 && are_bytes bytes

  within : (bytes : List ℕ) (i : ℕ) → T (are_bytes bytes) → slice_index bytes i < 256
  within [] i all = omega arith
  within (byte ∷ bytes) zero all = let is = and_l (nat_lt byte 256) (are_bytes bytes) all in grind (arith, common_steps, is)
  within (byte ∷ bytes) (suc i) all = within bytes i (and_r (nat_lt byte 256) (are_bytes bytes) all)

-- the eight digits of four bytes are the bytes of their sum
pub digits_stored : (first second third fourth number : ℕ)
    → number ≡ slice_index lower_digits (first / 16) + slice_index lower_digits (first % 16) * 256
    + (slice_index lower_digits (second / 16) + slice_index lower_digits (second % 16) * 256) * 65536
    + (slice_index lower_digits (third / 16) + slice_index lower_digits (third % 16) * 256) * 4294967296
    + (slice_index lower_digits (fourth / 16) + slice_index lower_digits (fourth % 16) * 256) * 281474976710656
    → to_le_bytes w64 number ≡ encode_lower (first ∷ second ∷ third ∷ fourth ∷ [])
unfolding encode_with
digits_stored first second third fourth number is = le_bytes_8 digits number refl small (omega (arith, is)) where
  digit : ℕ → ℕ
  digit n = slice_index lower_digits n

  digits : List ℕ
  digits = digit (first / 16) ∷ digit (first % 16) ∷ digit (second / 16) ∷ digit (second % 16)
      ∷ digit (third / 16) ∷ digit (third % 16) ∷ digit (fourth / 16) ∷ digit (fourth % 16) ∷ []

  small : (i : ℕ) → get_or digits i 0 < 256
  small zero = digit_small (first / 16)
  small (suc zero) = digit_small (first % 16)
  small (suc (suc zero)) = digit_small (second / 16)
  small (suc (suc (suc zero))) = digit_small (second % 16)
  small (suc (suc (suc (suc zero)))) = digit_small (third / 16)
  small (suc (suc (suc (suc (suc zero))))) = digit_small (third % 16)
  small (suc (suc (suc (suc (suc (suc zero)))))) = digit_small (fourth / 16)
  small (suc (suc (suc (suc (suc (suc (suc zero))))))) = digit_small (fourth % 16)
  small (suc (suc (suc (suc (suc (suc (suc (suc i)))))))) = omega arith

-- the digits of four bytes more are written
pub four_more : (input output part : List ℕ) (i : ℕ) → 4 * i + 4 ≤ length input → 8 * i + 8 ≤ length output
    → part ≡ encode_lower (get_or input (4 * i) 0 ∷ get_or input (4 * i + 1) 0 ∷ get_or input (4 * i + 2) 0 ∷ get_or input (4 * i + 3) 0 ∷ [])
    → take (8 * i) output ++ encode_lower (drop (4 * i) input) ≡ encode_lower input
    → take (8 * (i + 1)) (put_mid (8 * i) 8 output part) ++ encode_lower (drop (4 * (i + 1)) input) ≡ encode_lower input
unfolding encode_with
four_more input output part i within fits is so_far =
    ap (λ front. front ++ encode_lower (drop (4 * (i + 1)) input)) front_is
    ∙ append_assoc (take (8 * i) output) part (encode_lower (drop (4 * (i + 1)) input))
    ∙ ap (λ rest. take (8 * i) output ++ rest) (sym rest_is)
    ∙ so_far
  where
    from : ℕ
    from = 4 * i

    byte : ℕ → ℕ
    byte n = get_or input n 0

    next : (n behind : ℕ) → n + 1 ≡ behind → n < length input → drop n input ≡ byte n ∷ drop behind input
    next n behind on below = drop_more input n 0 below ∙ ap (λ m. byte n ∷ drop m input) on

    split : drop from input ≡ byte from ∷ byte (from + 1) ∷ byte (from + 2) ∷ byte (from + 3) ∷ drop (4 * (i + 1)) input
    split =
        next from (from + 1) refl (omega (arith, within))
        ∙ ap (λ rest. byte from ∷ rest) (next (from + 1) (from + 2) (omega arith) (omega (arith, within))
        ∙ ap (λ rest. byte (from + 1) ∷ rest) (next (from + 2) (from + 3) (omega arith) (omega (arith, within))
        ∙ ap (λ rest. byte (from + 2) ∷ rest) (next (from + 3) (4 * (i + 1)) (omega arith) (omega (arith, within)))))

    rest_is : encode_lower (drop from input) ≡ part ++ encode_lower (drop (4 * (i + 1)) input)
    rest_is = ap encode_lower split ∙ ap (λ front. front ++ encode_lower (drop (4 * (i + 1)) input)) (sym is)

    long : length part ≡ 8
    long = ap length is

    size : length (take (8 * i) output ++ part) ≡ 8 * (i + 1)
    size = omega (arith, long, length-append (take (8 * i) output) part, length-take-le (8 * i) output (omega (arith, fits)))

    front_is : take (8 * (i + 1)) (put_mid (8 * i) 8 output part) ≡ take (8 * i) output ++ part
    front_is = ap (take (8 * (i + 1))) (sym (append_assoc (take (8 * i) output) part (drop 8 (drop (8 * i) output))))
        ∙ take_at (take (8 * i) output ++ part) (drop 8 (drop (8 * i) output)) (8 * (i + 1)) size
