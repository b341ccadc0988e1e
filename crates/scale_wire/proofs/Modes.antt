-- The steps of reading a compact integer, over plain bytes.
use Rattle.std.specs.Prelude.{◌≡◌, ℕ, zero, suc, ◌/◌, ◌%◌, ◌^◌, ◌<◌, ◌≤◌, Bool, true, false, List, [], ◌∷◌, ◌++◌, length, take, drop, slice_index, nat_lt, nat_le, Some, None, refl}
use Rattle.std.proofs.Common.{sym, ◌∙◌, ap, subst, arith, length-append, length-drop}
use Rattle.std.specs.Int.{w16, w32, w64, from_le_bytes}
use Rattle.std.proofs.lemmas.Bool.{lt-ltb, le-ltb}
use Rattle.scale_wire.specs.declared.fault.Why.{Why}
use Rattle.scale_wire.specs.declared.fault.Why.TheVariants.{NotShortest, TooWide}
use Rattle.scale_wire.specs.LittleEndian.{number_from}
use Rattle.scale_wire.specs.LittleEndianLaws.{from_le_bytes-number_from}
use Rattle.scale_wire.specs.Refusal.{first_reason}
use Rattle.scale_wire.specs.Compact.{Mode, TwoBytes, FourBytes, Big, mode_numbered, compact_reasons, compact_refusal, bytes_in, number_in, announces_over, is_longer_in}
use Rattle.scale_wire.specs.CompactSteps.{mode_reasons}
use Rattle.scale_wire.specs.PartLaws.{not_lacking}

-- ## What a mode answers

pub mode_long : (most : ℕ) (mode : Mode) (bytes : List ℕ) → announces_over most mode bytes ≡ false
    → bytes_in mode bytes ≤ length bytes → is_longer_in mode bytes ≡ true
    → first_reason (mode_reasons most mode bytes) ≡ Some NotShortest
mode_long most mode bytes announced_fits whole longer =
    rw (announced_fits, not_lacking (bytes_in mode bytes) bytes whole, longer)

pub mode_none : (most : ℕ) (mode : Mode) (bytes : List ℕ) → announces_over most mode bytes ≡ false
    → bytes_in mode bytes ≤ length bytes → is_longer_in mode bytes ≡ false
    → first_reason (mode_reasons most mode bytes) ≡ None
mode_none most mode bytes announced_fits whole shortest =
    rw (announced_fits, not_lacking (bytes_in mode bytes) bytes whole, shortest)

-- ## Two and four bytes

take_two : (bytes : List ℕ) → 2 ≤ length bytes → slice_index bytes 0 ∷ slice_index bytes 1 ∷ [] ≡ take 2 bytes
take_two [] whole = absurd (omega arith)
take_two (a ∷ []) whole = absurd (omega arith)
take_two (a ∷ b ∷ bytes) whole = refl

take_four : (bytes : List ℕ) → 4 ≤ length bytes
    → slice_index bytes 0 ∷ slice_index bytes 1 ∷ slice_index bytes 2 ∷ slice_index bytes 3 ∷ [] ≡ take 4 bytes
take_four [] whole = absurd (omega arith)
take_four (a ∷ []) whole = absurd (omega arith)
take_four (a ∷ b ∷ []) whole = absurd (omega arith)
take_four (a ∷ b ∷ c ∷ []) whole = absurd (omega arith)
take_four (a ∷ b ∷ c ∷ d ∷ bytes) whole = refl

pub two_number : (bytes : List ℕ) → 2 ≤ length bytes
    → from_le_bytes w16 (slice_index bytes 0 ∷ slice_index bytes 1 ∷ []) ≡ number_from (take 2 bytes)
two_number bytes whole =
    from_le_bytes-number_from w16 (slice_index bytes 0 ∷ slice_index bytes 1 ∷ []) refl ∙ ap number_from (take_two bytes whole)

pub four_number : (bytes : List ℕ) → 4 ≤ length bytes
    → from_le_bytes w32 (slice_index bytes 0 ∷ slice_index bytes 1 ∷ slice_index bytes 2 ∷ slice_index bytes 3 ∷ [])
    ≡ number_from (take 4 bytes)
four_number bytes whole =
    from_le_bytes-number_from w32 (slice_index bytes 0 ∷ slice_index bytes 1 ∷ slice_index bytes 2 ∷ slice_index bytes 3 ∷ []) refl
    ∙ ap number_from (take_four bytes whole)

-- a long number and a short one
pub two_long : (number : ℕ) (bytes : List ℕ) → 2 ≤ length bytes → number ≡ number_from (take 2 bytes) → number / 4 < 64
    → first_reason (mode_reasons 8 TwoBytes bytes) ≡ Some NotShortest
two_long number bytes whole number_is below =
    mode_long 8 TwoBytes bytes refl whole
    (ap (λ (n : ℕ). nat_lt (n / 4) 64) (sym number_is) ∙ lt-ltb (number / 4) 64 below)

pub two_none : (number : ℕ) (bytes : List ℕ) → 2 ≤ length bytes → number ≡ number_from (take 2 bytes) → 64 ≤ number / 4
    → first_reason (mode_reasons 8 TwoBytes bytes) ≡ None
two_none number bytes whole number_is above =
    mode_none 8 TwoBytes bytes refl whole
    (ap (λ (n : ℕ). nat_lt (n / 4) 64) (sym number_is) ∙ le-ltb (number / 4) 64 above)

pub four_long : (number : ℕ) (bytes : List ℕ) → 4 ≤ length bytes → number ≡ number_from (take 4 bytes) → number / 4 < 2 ^ 14
    → first_reason (mode_reasons 8 FourBytes bytes) ≡ Some NotShortest
four_long number bytes whole number_is below =
    mode_long 8 FourBytes bytes refl whole
    (ap (λ (n : ℕ). nat_lt (n / 4) (2 ^ 14)) (sym number_is) ∙ lt-ltb (number / 4) (2 ^ 14) below)

pub four_none : (number : ℕ) (bytes : List ℕ) → 4 ≤ length bytes → number ≡ number_from (take 4 bytes) → 2 ^ 14 ≤ number / 4
    → first_reason (mode_reasons 8 FourBytes bytes) ≡ None
four_none number bytes whole number_is above =
    mode_none 8 FourBytes bytes refl whole
    (ap (λ (n : ℕ). nat_lt (n / 4) (2 ^ 14)) (sym number_is) ∙ le-ltb (number / 4) (2 ^ 14) above)

-- ## Up to eight bytes in a field of eight

number_from-zeros : (bytes zeros : List ℕ) → number_from zeros ≡ 0 → number_from (bytes ++ zeros) ≡ number_from bytes
unfolding number_from
number_from-zeros [] zeros none = none
number_from-zeros (byte ∷ bytes) zeros none = omega (arith, number_from-zeros bytes zeros none)

none_of_none : (count : ℕ) → number_from (drop count []) ≡ 0
unfolding number_from
none_of_none zero = refl
none_of_none (suc count) = refl

rest_of_zeros : (count : ℕ) → number_from (drop count (0 ∷ 0 ∷ 0 ∷ 0 ∷ 0 ∷ 0 ∷ 0 ∷ 0 ∷ [])) ≡ 0
unfolding number_from
rest_of_zeros zero = refl
rest_of_zeros (suc zero) = refl
rest_of_zeros (suc (suc zero)) = refl
rest_of_zeros (suc (suc (suc zero))) = refl
rest_of_zeros (suc (suc (suc (suc zero)))) = refl
rest_of_zeros (suc (suc (suc (suc (suc zero))))) = refl
rest_of_zeros (suc (suc (suc (suc (suc (suc zero)))))) = refl
rest_of_zeros (suc (suc (suc (suc (suc (suc (suc zero))))))) = refl
rest_of_zeros (suc (suc (suc (suc (suc (suc (suc (suc count)))))))) = none_of_none count

pub wide_number : (bytes : List ℕ) → length bytes ≤ 8
    → from_le_bytes w64 (bytes ++ drop (length bytes) (0 ∷ 0 ∷ 0 ∷ 0 ∷ 0 ∷ 0 ∷ 0 ∷ 0 ∷ [])) ≡ number_from bytes
wide_number bytes few =
    let long : length (bytes ++ drop (length bytes) (0 ∷ 0 ∷ 0 ∷ 0 ∷ 0 ∷ 0 ∷ 0 ∷ 0 ∷ [])) ≡ 8 =
    omega (arith, length-append {A = ℕ} bytes (drop (length bytes) (0 ∷ 0 ∷ 0 ∷ 0 ∷ 0 ∷ 0 ∷ 0 ∷ 0 ∷ [])), length-drop {A = ℕ} (length bytes) (0 ∷ 0 ∷ 0 ∷ 0 ∷ 0 ∷ 0 ∷ 0 ∷ 0 ∷ [])) in
    from_le_bytes-number_from w64 (bytes ++ drop (length bytes) (0 ∷ 0 ∷ 0 ∷ 0 ∷ 0 ∷ 0 ∷ 0 ∷ 0 ∷ [])) long
    ∙ number_from-zeros bytes (drop (length bytes) (0 ∷ 0 ∷ 0 ∷ 0 ∷ 0 ∷ 0 ∷ 0 ∷ 0 ∷ [])) (rest_of_zeros (length bytes))

-- ## What the range of a type adds

numbered_else : (number : ℕ) → 3 ≤ number → mode_numbered number ≡ Big
numbered_else zero three = absurd (omega arith)
numbered_else (suc zero) three = absurd (omega arith)
numbered_else (suc (suc zero)) three = absurd (omega arith)
numbered_else (suc (suc (suc number))) three = refl

refused_before : (reasons more : List (Bool × Why)) (why : Why) → first_reason reasons ≡ Some why
    → first_reason (reasons ++ more) ≡ Some why
refused_before [] more why some = cc
refused_before ((true, first) ∷ reasons) more why some = some
refused_before ((false, first) ∷ reasons) more why some = refused_before reasons more why some

pub big_refused : (most limit : ℕ) (bytes : List ℕ) (why : Why) → 0 < length bytes → 3 ≤ slice_index bytes 0 % 4
    → first_reason (mode_reasons most Big bytes) ≡ Some why → compact_refusal most limit bytes ≡ Some why
big_refused most limit bytes why some three refused =
    subst (λ (mode : Mode). first_reason (compact_reasons most limit mode bytes) ≡ Some why) (sym (numbered_else (slice_index bytes 0 % 4) three)) (
    rw (not_lacking 1 bytes some)
    (refused_before (mode_reasons most Big bytes) ((nat_le limit (number_in Big bytes), TooWide) ∷ []) why refused))
