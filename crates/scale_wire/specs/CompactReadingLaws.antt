-- Proofs: from bytes to the compact integer that they spell.
use Rattle.std.specs.Prelude.{◌≡◌, ℕ, zero, suc, ◌+◌, ◌-◌, ◌*◌, ◌/◌, ◌%◌, ◌^◌, ◌<◌, ◌≤◌, Bool, false, List, [], ◌∷◌, ◌++◌, length, take, drop, slice_index, nat_lt, nat_eq, Option, None, refl}
use Rattle.std.proofs.Common.{sym, ◌∙◌, ap, ap₂, subst, inr, arith}
use Rattle.std.proofs.lemmas.Bool.{ltb-false, leb-false, lt-leb, eqb-false, or_parts}
use Rattle.std.proofs.lemmas.List.{take-append-drop, length-take-le, get_or-take}
use Rattle.scale_wire.specs.declared.fault.Why.{Why}
use Rattle.scale_wire.specs.Form.{IsBytes}
use Rattle.scale_wire.specs.FormLaws.{IsBytes-front}
use Rattle.scale_wire.specs.LittleEndian.{little_endian, number_from}
use Rattle.scale_wire.specs.LittleEndianLaws.{little_endian-number_from, number_from-bound, last_not_zero}
use Rattle.scale_wire.specs.Refusal.{first_reason}
use Rattle.scale_wire.specs.Compact.{Mode, OneByte, TwoBytes, FourBytes, Big, mode_numbered, mode_of, bytes_in, number_in, announces_over, is_longer_in, least_bytes, compact_bytes, compact_reasons}
use Rattle.scale_wire.specs.PartLaws.{not_lacking}
use Rattle.scale_wire.specs.TableLaws.{by_reason}
use Rattle.scale_wire.specs.CompactSpellingLaws.{compact_one, compact_two, compact_four, compact_big, least_is}

-- ## What bytes are that no reason refuses

pub record Kept (most limit : ℕ) (mode : Mode) (bytes : List ℕ) : Type 0 where
  pub some : 1 ≤ length bytes
  pub announced_fits : announces_over most mode bytes ≡ false
  pub whole : bytes_in mode bytes ≤ length bytes
  pub shortest : is_longer_in mode bytes ≡ false
  pub below : number_in mode bytes < limit

pub kept_from : (most limit : ℕ) (mode : Mode) (bytes : List ℕ) (tail : List (Bool × Why))
    → first_reason (compact_reasons most limit mode bytes ++ tail) ≡ None
    → Kept most limit mode bytes × (first_reason tail ≡ None)
kept_from most limit mode bytes tail =
    by_reason (λ answer. answer ≡ None → Kept most limit mode bytes × (first_reason tail ≡ None))
    (compact_reasons most limit mode bytes) tail (
      (λ _ is. cc),
      (λ some. (
        (λ _ is. cc),
        (λ announced_fits. (
          (λ _ is. cc),
          (λ whole. (
            (λ _ is. cc),
            (λ shortest. (
              (λ _ is. cc),
              (λ below none. (
                record {
                  some = ltb-false (length bytes) 1 some;
                  announced_fits = announced_fits;
                  whole = ltb-false (length bytes) (bytes_in mode bytes) whole;
                  shortest = shortest;
                  below = leb-false limit (number_in mode bytes) below;
                },
                none,
              )),
            )),
          )),
        )),
      )),
    )

pub kept_to : (most limit : ℕ) (mode : Mode) (bytes : List ℕ) (tail : List (Bool × Why)) (answer : Option Why)
    → Kept most limit mode bytes → first_reason tail ≡ answer
    → first_reason (compact_reasons most limit mode bytes ++ tail) ≡ answer
kept_to most limit mode bytes tail answer kept rest =
    rw (
      not_lacking 1 bytes kept.some,
      kept.announced_fits,
      not_lacking (bytes_in mode bytes) bytes kept.whole,
      kept.shortest,
      lt-leb limit (number_in mode bytes) kept.below,
    ) rest

-- ## From bytes to their number and back

numbered_one : (number : ℕ) → mode_numbered number ≡ OneByte → number ≡ 0
numbered_one zero is = refl
numbered_one (suc zero) is = cc
numbered_one (suc (suc zero)) is = cc
numbered_one (suc (suc (suc number))) is = cc

numbered_two : (number : ℕ) → mode_numbered number ≡ TwoBytes → number ≡ 1
numbered_two zero is = cc
numbered_two (suc zero) is = refl
numbered_two (suc (suc zero)) is = cc
numbered_two (suc (suc (suc number))) is = cc

numbered_four : (number : ℕ) → mode_numbered number ≡ FourBytes → number ≡ 2
numbered_four zero is = cc
numbered_four (suc zero) is = cc
numbered_four (suc (suc zero)) is = refl
numbered_four (suc (suc (suc number))) is = cc

numbered_big : (number : ℕ) → mode_numbered number ≡ Big → 3 ≤ number
numbered_big zero is = cc
numbered_big (suc zero) is = cc
numbered_big (suc (suc zero)) is = cc
numbered_big (suc (suc (suc number))) is = omega arith

pub first_of_number : (count : ℕ) (bytes : List ℕ) → number_from (take (suc count) bytes) % 4 ≡ slice_index bytes 0 % 4
unfolding number_from
first_of_number count [] = refl
first_of_number count (byte ∷ bytes) = omega arith

taken_bytes : (count : ℕ) (bytes : List ℕ) → IsBytes bytes → IsBytes (take count bytes)
taken_bytes count bytes are_bytes =
    IsBytes-front (take count bytes) (drop count bytes) (subst (λ b. IsBytes b) (sym (take-append-drop count bytes)) are_bytes)

-- the bytes of a mode of a fixed size are a number
fixed_mode : (count : ℕ) (bytes : List ℕ) → IsBytes bytes → count ≤ length bytes
    → (number_from (take count bytes) < 256 ^ count) × (little_endian count (number_from (take count bytes)) ≡ take count bytes)
fixed_mode count bytes are_bytes whole =
    let long : length (take count bytes) ≡ count = length-take-le count bytes whole in (
      subst (λ n. number_from (take count bytes) < 256 ^ n) long (number_from-bound (take count bytes) (taken_bytes count bytes are_bytes)),
      subst (λ n. little_endian n (number_from (take count bytes)) ≡ take count bytes) long
          (little_endian-number_from (take count bytes) (taken_bytes count bytes are_bytes)),
    )

spelled_one : (bytes : List ℕ) → IsBytes bytes → mode_of bytes ≡ OneByte → 1 ≤ length bytes
    → compact_bytes (number_in OneByte bytes) ≡ take 1 bytes
unfolding little_endian
spelled_one [] are_bytes is some = absurd (omega arith)
spelled_one (byte ∷ rest) are_bytes is some =
    let low : byte % 4 ≡ 0 = numbered_one (byte % 4) is in
    let byte_fits : byte < 256 = are_bytes.0 in
    let fits : byte / 4 < 64 = omega arith in
    let same : 4 * (byte / 4) % 256 ≡ byte = omega arith in
    compact_one (byte / 4) fits ∙ ap (λ (b : ℕ). b ∷ []) same

spelled_two : (bytes : List ℕ) → IsBytes bytes → mode_of bytes ≡ TwoBytes → 2 ≤ length bytes → is_longer_in TwoBytes bytes ≡ false
    → compact_bytes (number_in TwoBytes bytes) ≡ take 2 bytes
spelled_two bytes are_bytes is whole shortest =
    let spelled = fixed_mode 2 bytes are_bytes whole in
    let low : number_from (take 2 bytes) % 4 ≡ 1 = first_of_number 1 bytes ∙ numbered_two (slice_index bytes 0 % 4) is in
    let above : 64 ≤ number_from (take 2 bytes) / 4 = ltb-false (number_from (take 2 bytes) / 4) 64 shortest in
    let below : number_from (take 2 bytes) < 256 ^ 2 = spelled.0 in
    let fits : number_from (take 2 bytes) / 4 < 2 ^ 14 = omega arith in
    let same : 4 * (number_from (take 2 bytes) / 4) + 1 ≡ number_from (take 2 bytes) = omega arith in
    compact_two (number_from (take 2 bytes) / 4) above fits ∙ (ap (λ n. little_endian 2 n) same ∙ spelled.1)

spelled_four : (bytes : List ℕ) → IsBytes bytes → mode_of bytes ≡ FourBytes → 4 ≤ length bytes → is_longer_in FourBytes bytes ≡ false
    → compact_bytes (number_in FourBytes bytes) ≡ take 4 bytes
spelled_four bytes are_bytes is whole shortest =
    let spelled = fixed_mode 4 bytes are_bytes whole in
    let low : number_from (take 4 bytes) % 4 ≡ 2 = first_of_number 3 bytes ∙ numbered_four (slice_index bytes 0 % 4) is in
    let above : 2 ^ 14 ≤ number_from (take 4 bytes) / 4 = ltb-false (number_from (take 4 bytes) / 4) (2 ^ 14) shortest in
    let below : number_from (take 4 bytes) < 256 ^ 4 = spelled.0 in
    let fits : number_from (take 4 bytes) / 4 < 2 ^ 30 = omega arith in
    let same : 4 * (number_from (take 4 bytes) / 4) + 2 ≡ number_from (take 4 bytes) = omega arith in
    compact_four (number_from (take 4 bytes) / 4) above fits ∙ (ap (λ n. little_endian 4 n) same ∙ spelled.1)

big_number : (count : ℕ) (rest : List ℕ) → IsBytes rest → suc count ≤ length rest → 0 < slice_index rest count
    → (256 ^ count ≤ number_from (take (suc count) rest)) × (number_from (take (suc count) rest) < 256 ^ suc count)
big_number count rest are_bytes whole positive =
    let long : length (take (suc count) rest) ≡ suc count = length-take-le (suc count) rest whole in
    let last : slice_index (take (suc count) rest) count ≡ slice_index rest count = get_or-take (suc count) rest count 0 (omega arith) in
    let positive' : 0 < slice_index (take (suc count) rest) count = omega arith in
    (last_not_zero count (take (suc count) rest) long positive', (fixed_mode (suc count) rest are_bytes whole).0)

big_spelled : (byte more : ℕ) (rest : List ℕ) → byte < 256 → IsBytes rest → byte % 4 ≡ 3 → byte / 4 ≡ more → more ≤ 4
    → more + 4 ≤ length rest → 2 ^ 30 ≤ number_from (take (more + 4) rest) → 0 < slice_index rest (more + 3)
    → compact_bytes (number_from (take (more + 4) rest)) ≡ byte ∷ take (more + 4) rest
big_spelled byte more rest byte_fits are_bytes low high few whole above positive =
    let four : more + 4 ≡ suc (more + 3) = omega arith in
    let between = big_number (more + 3) rest are_bytes (omega arith) positive in
    let over_low : 256 ^ (more + 3) ≤ number_from (take (more + 4) rest) =
    subst (λ (n : ℕ). 256 ^ (more + 3) ≤ number_from (take n rest)) (sym four) between.0 in
    let fits : number_from (take (more + 4) rest) < 256 ^ (more + 4) =
    subst (λ (n : ℕ). number_from (take n rest) < 256 ^ n) (sym four) between.1 in
    let count_is : least_bytes (number_from (take (more + 4) rest)) ≡ more + 4 =
    least_is more (number_from (take (more + 4) rest)) few fits (inr over_low) in
    let head : 4 * ((more + 4) - 4) + 3 ≡ byte = omega arith in
    compact_big (number_from (take (more + 4) rest)) above
    ∙ (ap (λ (count : ℕ). (4 * (count - 4) + 3) ∷ little_endian count (number_from (take (more + 4) rest))) count_is
    ∙ ap₂ (λ (b : ℕ) (bs : List ℕ). b ∷ bs) head (fixed_mode (more + 4) rest are_bytes whole).1)

positive_from : (number : ℕ) → (number ≡ 0 → ⊥) → 0 < number
positive_from zero not_zero = absurd (not_zero refl)
positive_from (suc number) not_zero = omega arith

spelled_big : (most : ℕ) (bytes : List ℕ) → IsBytes bytes → mode_of bytes ≡ Big → most ≤ 8
    → announces_over most Big bytes ≡ false → bytes_in Big bytes ≤ length bytes → is_longer_in Big bytes ≡ false
    → compact_bytes (number_in Big bytes) ≡ take (bytes_in Big bytes) bytes
spelled_big most [] are_bytes is few announced_fits whole shortest = absurd (omega arith)
spelled_big most (byte ∷ rest) are_bytes is few announced_fits whole shortest =
    let byte_fits : byte < 256 = are_bytes.0 in
    let low3 : 3 ≤ byte % 4 = numbered_big (byte % 4) is in
    let low : byte % 4 ≡ 3 = omega arith in
    let within : byte / 4 + 4 ≤ most = ltb-false most (byte / 4 + 4) announced_fits in
    let long : byte / 4 + 4 ≤ length rest = omega arith in
    let neither = or_parts (nat_lt (number_from (take (byte / 4 + 4) rest)) (2 ^ 30)) (nat_eq (slice_index (byte ∷ rest) (byte / 4 + 4)) 0) shortest in
    let above : 2 ^ 30 ≤ number_from (take (byte / 4 + 4) rest) = ltb-false (number_from (take (byte / 4 + 4) rest)) (2 ^ 30) neither.0 in
    let next : byte / 4 + 4 ≡ suc (byte / 4 + 3) = omega arith in
    let last : slice_index (byte ∷ rest) (byte / 4 + 4) ≡ slice_index rest (byte / 4 + 3) = ap (λ (n : ℕ). slice_index (byte ∷ rest) n) next in
    let positive : 0 < slice_index rest (byte / 4 + 3) =
    subst (λ (n : ℕ). 0 < n) last (positive_from (slice_index (byte ∷ rest) (byte / 4 + 4)) (eqb-false (slice_index (byte ∷ rest) (byte / 4 + 4)) 0 neither.1)) in
    let count_is : suc (byte / 4 + 4) ≡ 1 + (byte / 4 + 4) = omega arith in
    big_spelled byte (byte / 4) rest byte_fits are_bytes.1 low refl (omega arith) long above positive
    ∙ ap (λ (n : ℕ). take n (byte ∷ rest)) count_is

pub spelled_in : (most limit : ℕ) (mode : Mode) (bytes : List ℕ) → IsBytes bytes → mode_of bytes ≡ mode → most ≤ 8
    → Kept most limit mode bytes → compact_bytes (number_in mode bytes) ≡ take (bytes_in mode bytes) bytes
spelled_in most limit OneByte bytes are_bytes is few kept = spelled_one bytes are_bytes is kept.whole
spelled_in most limit TwoBytes bytes are_bytes is few kept = spelled_two bytes are_bytes is kept.whole kept.shortest
spelled_in most limit FourBytes bytes are_bytes is few kept = spelled_four bytes are_bytes is kept.whole kept.shortest
spelled_in most limit Big bytes are_bytes is few kept =
    spelled_big most bytes are_bytes is few kept.announced_fits kept.whole kept.shortest
