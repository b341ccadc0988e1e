-- Proofs: compact integers keep the laws of a form.
use Rattle.std.specs.Prelude.{◌≡◌, ◌≢◌, ℕ, suc, ◌+◌, ◌*◌, ◌/◌, ◌^◌, ◌<◌, ◌≤◌, Bool, false, ◌||◌, List, [], ◌∷◌, ◌++◌, length, take, drop, slice_index, nat_lt, nat_eq, Option, Some, None, refl}
use Rattle.std.proofs.Common.{sym, ◌∙◌, ap, ap₂, subst, inl, inr, arith, length-append, lit≤}
use Rattle.std.proofs.lemmas.Bool.{cases_lt, ltb-true, ltb-false, lt-ltb, le-ltb}
use Rattle.std.proofs.lemmas.List.{take-append-drop, length-take-le, take-append-le, get_or_append_left}
use Rattle.scale_wire.specs.declared.fault.Why.{Why}
use Rattle.scale_wire.specs.declared.fault.Why.TheVariants.{Short, TooMany, Trailing}
use Rattle.scale_wire.specs.Form.{IsWire, IsBytes, part}
use Rattle.scale_wire.specs.LittleEndian.{number_from}
use Rattle.scale_wire.specs.LittleEndianLaws.{length-little_endian}
use Rattle.scale_wire.specs.Refusal.{first_reason}
use Rattle.scale_wire.specs.Compact.{Mode, OneByte, TwoBytes, FourBytes, Big, mode_of, announced, bytes_in, number_in}
use Rattle.scale_wire.specs.Compact.{announces_over, is_longer_in, least_bytes, compact_bytes, compact_reasons, compact_refusal}
use Rattle.scale_wire.specs.Parts.{compact_form, length_form, length_refusal, compact_u16, compact_u32, compact_u64}
use Rattle.scale_wire.specs.PartLaws.{IsHead, IsPart, part_laws, not_lacking, some_left}
use Rattle.scale_wire.specs.TableLaws.{by_reason}
use Rattle.scale_wire.specs.CompactSpellingLaws.{compact_one, compact_two, compact_four, compact_big, least_bytes_is}
use Rattle.scale_wire.specs.CompactReadingLaws.{kept_from, kept_to, spelled_in}
use Rattle.scale_wire.specs.CompactWritingLaws.{gives_back}
use Rattle.scale_wire.specs.CompactRange.{Suits}

-- ## More bytes behind

-- with more bytes behind, a mode's reasons are the same where its bytes are there
record Same (mode : Mode) (bytes more : List ℕ) : Type 0 where
  number_is : number_in mode (bytes ++ more) ≡ number_in mode bytes
  longer_is : is_longer_in mode (bytes ++ more) ≡ is_longer_in mode bytes

same_in : (mode : Mode) (byte : ℕ) (rest more : List ℕ) → bytes_in mode (byte ∷ rest) ≤ length (byte ∷ rest)
    → Same mode (byte ∷ rest) more
same_in OneByte byte rest more whole = record { number_is = refl; longer_is = refl }
same_in TwoBytes byte rest more whole =
    let taken : take 2 (byte ∷ (rest ++ more)) ≡ take 2 (byte ∷ rest) = take-append-le 2 (byte ∷ rest) more whole in
    let number_is : number_from (take 2 (byte ∷ (rest ++ more))) / 4 ≡ number_from (take 2 (byte ∷ rest)) / 4 =
    ap (λ (bs : List ℕ). number_from bs / 4) taken in
    record { number_is = number_is; longer_is = ap (λ (n : ℕ). nat_lt n 64) number_is }
same_in FourBytes byte rest more whole =
    let taken : take 4 (byte ∷ (rest ++ more)) ≡ take 4 (byte ∷ rest) = take-append-le 4 (byte ∷ rest) more whole in
    let number_is : number_from (take 4 (byte ∷ (rest ++ more))) / 4 ≡ number_from (take 4 (byte ∷ rest)) / 4 =
    ap (λ (bs : List ℕ). number_from bs / 4) taken in
    record { number_is = number_is; longer_is = ap (λ (n : ℕ). nat_lt n (2 ^ 14)) number_is }
same_in Big byte rest more whole =
    let long : byte / 4 + 4 ≤ length rest = omega arith in
    let taken : take (byte / 4 + 4) (rest ++ more) ≡ take (byte / 4 + 4) rest = take-append-le (byte / 4 + 4) rest more long in
    let number_is : number_from (take (byte / 4 + 4) (rest ++ more)) ≡ number_from (take (byte / 4 + 4) rest) = ap number_from taken in
    let last_is : slice_index (byte ∷ (rest ++ more)) (byte / 4 + 4) ≡ slice_index (byte ∷ rest) (byte / 4 + 4) =
    get_or_append_left (byte ∷ rest) more 0 (byte / 4 + 4) (omega arith) in
    record {
      number_is = number_is;
      longer_is = ap₂ (λ (n last : ℕ). nat_lt n (2 ^ 30) || nat_eq last 0) number_is last_is;
    }

same_size : (mode : Mode) (byte : ℕ) (rest more : List ℕ) → bytes_in mode (byte ∷ (rest ++ more)) ≡ bytes_in mode (byte ∷ rest)
same_size OneByte byte rest more = refl
same_size TwoBytes byte rest more = refl
same_size FourBytes byte rest more = refl
same_size Big byte rest more = refl

same_announced : (most : ℕ) (mode : Mode) (byte : ℕ) (rest more : List ℕ)
    → announces_over most mode (byte ∷ (rest ++ more)) ≡ announces_over most mode (byte ∷ rest)
same_announced most OneByte byte rest more = refl
same_announced most TwoBytes byte rest more = refl
same_announced most FourBytes byte rest more = refl
same_announced most Big byte rest more = refl

-- a refusal stands whatever follows, unless bytes are missing
persists_in : (most limit : ℕ) (mode : Mode) (byte : ℕ) (rest more : List ℕ) (tail : ℕ → List (Bool × Why)) (why : Why)
    → why ≢ Short
    → first_reason (compact_reasons most limit mode (byte ∷ rest) ++ tail (number_in mode (byte ∷ rest))) ≡ Some why
    → first_reason (compact_reasons most limit mode (byte ∷ (rest ++ more)) ++ tail (number_in mode (byte ∷ (rest ++ more)))) ≡ Some why
persists_in most limit mode byte rest more tail why not_short =
    by_reason (λ answer. answer ≡ Some why → first_reason (compact_reasons most limit mode (byte ∷ (rest ++ more)) ++ tail (number_in mode (byte ∷ (rest ++ more)))) ≡ Some why)
    (compact_reasons most limit mode (byte ∷ rest)) (tail (number_in mode (byte ∷ rest))) (
      (λ lacking is. absurd (not_short cc)),
      (λ some. (
        (λ over is. rw (some_left byte (rest ++ more), same_announced most mode byte rest more ∙ over) is),
        (λ announced_fits. (
          (λ lacking is. absurd (not_short cc)),
          (λ whole.
              let whole : bytes_in mode (byte ∷ rest) ≤ length (byte ∷ rest) = ltb-false (length (byte ∷ rest)) (bytes_in mode (byte ∷ rest)) whole in
              let size_is : bytes_in mode (byte ∷ (rest ++ more)) ≡ bytes_in mode (byte ∷ rest) = same_size mode byte rest more in
              let same = same_in mode byte rest more whole in
              let more_whole = not_lacking (bytes_in mode (byte ∷ (rest ++ more))) (byte ∷ (rest ++ more)) (omega (arith, length-append rest more)) in (
                (λ longer is. rw (some_left byte (rest ++ more), same_announced most mode byte rest more ∙ announced_fits, more_whole, same.longer_is ∙ longer) is),
                (λ shortest. (
                  (λ wide is. rw (some_left byte (rest ++ more), same_announced most mode byte rest more ∙ announced_fits, more_whole, same.longer_is ∙ shortest, same.number_is, wide) is),
                  (λ below is. rw (some_left byte (rest ++ more), same_announced most mode byte rest more ∙ announced_fits, more_whole, same.longer_is ∙ shortest, same.number_is, below) is),
                )),
              )),
        )),
      )),
    )

-- ## A compact integer, with whatever is asked of its number besides

-- `tail` has the further reasons to refuse a number below `limit`, none of which is that bytes are
-- missing or left.
pub record HasTail (limit : ℕ) (fits : ℕ → Type 0) (tail : ℕ → List (Bool × Why)) : Type 0 where
  pub enters : (number : ℕ) → number < limit → first_reason (tail number) ≡ None → fits number
  pub below : (number : ℕ) → fits number → number < limit
  pub passes : (number : ℕ) → fits number → first_reason (tail number) ≡ None
  pub not_short : (number : ℕ) → first_reason (tail number) ≡ Some Short → ⊥
  pub no_trailing : (number : ℕ) → first_reason (tail number) ≡ Some Trailing → ⊥

abbrev pub tailed_refusal : ℕ → ℕ → (ℕ → List (Bool × Why)) → List ℕ → Option Why
tailed_refusal most limit tail bytes =
    first_reason (compact_reasons most limit (mode_of bytes) bytes ++ tail (number_in (mode_of bytes) bytes))

size_bound : (most limit longest : ℕ) (mode : Mode) (bytes : List ℕ) → Suits most limit longest
    → announces_over most mode bytes ≡ false → bytes_in mode bytes ≤ longest
size_bound most limit longest OneByte bytes suits announced_fits = let four = suits.four in omega arith
size_bound most limit longest TwoBytes bytes suits announced_fits = let four = suits.four in omega arith
size_bound most limit longest FourBytes bytes suits announced_fits = suits.four
size_bound most limit longest Big bytes suits announced_fits =
    let within : announced bytes ≤ most = ltb-false most (announced bytes) announced_fits in
    let reaches = suits.reaches in
    omega arith

compact_bound : (most limit longest number : ℕ) → Suits most limit longest → number < limit → length (compact_bytes number) ≤ longest
compact_bound most limit longest number suits fits =
    let four : 4 ≤ longest = suits.four in
    let reaches : most + 1 ≤ longest = suits.reaches in
    elim (cases_lt number 64) [
      | inl below ↦
          let long : length (compact_bytes number) ≡ 1 = ap length (compact_one number below) ∙ length-little_endian 1 (4 * number) in
          omega arith
      | inr above ↦
          elim (cases_lt number (2 ^ 14)) [
            | inl below ↦
                let long : length (compact_bytes number) ≡ 2 = ap length (compact_two number above below) ∙ length-little_endian 2 (4 * number + 1) in
                omega arith
            | inr above ↦
                elim (cases_lt number (2 ^ 30)) [
                  | inl below ↦
                      let long : length (compact_bytes number) ≡ 4 = ap length (compact_four number above below) ∙ length-little_endian 4 (4 * number + 2) in
                      omega arith
                  | inr above ↦
                      let long : length (compact_bytes number) ≡ suc (least_bytes number) =
                      ap length (compact_big number above) ∙ ap suc (length-little_endian (least_bytes number) number) in
                      let holds : least_bytes number ≤ most = suits.holds number fits above in
                      omega arith
                ]
          ]
    ]

module _ (most limit longest : ℕ) (fits : ℕ → Type 0) (tail : ℕ → List (Bool × Why)) (suits : Suits most limit longest) (tails : HasTail limit fits tail) where
  tailed_short : (mode : Mode) (bytes : List ℕ)
      → first_reason (compact_reasons most limit mode bytes ++ tail (number_in mode bytes)) ≡ Some Short → length bytes < longest
  tailed_short mode bytes =
      by_reason (λ answer. answer ≡ Some Short → length bytes < longest)
      (compact_reasons most limit mode bytes) (tail (number_in mode bytes)) (
        (λ lacking is. let less : length bytes < 1 = ltb-true (length bytes) 1 lacking in let four = suits.four in omega arith),
        (λ some. (
          (λ _ is. cc),
          (λ announced_fits. (
            (λ lacking is.
                let less : length bytes < bytes_in mode bytes = ltb-true (length bytes) (bytes_in mode bytes) lacking in
                let bound : bytes_in mode bytes ≤ longest = size_bound most limit longest mode bytes suits announced_fits in
                omega arith),
            (λ whole. ((λ _ is. cc), (λ shortest. ((λ _ is. cc), (λ below is. absurd (tails.not_short (number_in mode bytes) is)))))),
          )),
        )),
      )

  tailed_no_trailing : (mode : Mode) (bytes : List ℕ)
      → first_reason (compact_reasons most limit mode bytes ++ tail (number_in mode bytes)) ≡ Some Trailing → ⊥
  tailed_no_trailing mode bytes =
      by_reason (λ answer. answer ≡ Some Trailing → ⊥) (compact_reasons most limit mode bytes) (tail (number_in mode bytes)) (
        (λ _ is. cc),
        (λ _. ((λ _ is. cc), (λ _. ((λ _ is. cc), (λ _. ((λ _ is. cc), (λ _. ((λ _ is. cc), (λ _. tails.no_trailing (number_in mode bytes)))))))))),
      )

  tailed_persists : (bytes more : List ℕ) (why : Why) → why ≢ Short → tailed_refusal most limit tail bytes ≡ Some why
      → tailed_refusal most limit tail (bytes ++ more) ≡ Some why
  tailed_persists [] more why not_short some = absurd (not_short cc)
  tailed_persists (byte ∷ rest) more why not_short some =
      persists_in most limit (mode_of (byte ∷ rest)) byte rest more tail why not_short some

  tailed_head : (bytes : List ℕ) → IsBytes bytes → tailed_refusal most limit tail bytes ≡ None
      → IsHead (part compact_bytes fits (tailed_refusal most limit tail) longest) bytes (number_in (mode_of bytes) bytes) (bytes_in (mode_of bytes) bytes)
  tailed_head bytes are_bytes none =
      let kept = kept_from most limit (mode_of bytes) bytes (tail (number_in (mode_of bytes) bytes)) none in
      let spelled : compact_bytes (number_in (mode_of bytes) bytes) ≡ take (bytes_in (mode_of bytes) bytes) bytes =
      spelled_in most limit (mode_of bytes) bytes are_bytes refl suits.few kept.0 in
      record {
        in_range = tails.enters (number_in (mode_of bytes) bytes) kept.0.below kept.1;
        whole = sym (ap (λ (s : List ℕ). s ++ drop (bytes_in (mode_of bytes) bytes) bytes) spelled
            ∙ take-append-drop (bytes_in (mode_of bytes) bytes) bytes);
        size_is = ap length spelled ∙ length-take-le (bytes_in (mode_of bytes) bytes) bytes kept.0.whole;
      }

  -- a number's spelling is answered by the further reasons alone
  pub tail_decides : (number : ℕ) (rest : List ℕ) (answer : Option Why) → number < limit → first_reason (tail number) ≡ answer
      → tailed_refusal most limit tail (compact_bytes number ++ rest) ≡ answer
  tail_decides number rest answer below answered =
      let back = gives_back most limit longest number rest suits below in
      subst (λ (mode : Mode). first_reason (compact_reasons most limit mode (compact_bytes number ++ rest) ++ tail (number_in mode (compact_bytes number ++ rest))) ≡ answer)
      (sym back.mode_is)
      (kept_to most limit back.mode (compact_bytes number ++ rest) (tail (number_in back.mode (compact_bytes number ++ rest))) answer back.kept
      (ap (λ (n : ℕ). first_reason (tail n)) back.number_is ∙ answered))

  tailed_kept : (number : ℕ) (rest : List ℕ) → fits number → tailed_refusal most limit tail (compact_bytes number ++ rest) ≡ None
  tailed_kept number rest number_fits = tail_decides number rest None (tails.below number number_fits) (tails.passes number number_fits)

  tailed_back : (number : ℕ) (rest : List ℕ) → fits number
      → number_in (mode_of (compact_bytes number ++ rest)) (compact_bytes number ++ rest) ≡ number
  tailed_back number rest number_fits =
      let back = gives_back most limit longest number rest suits (tails.below number number_fits) in
      ap (λ (mode : Mode). number_in mode (compact_bytes number ++ rest)) back.mode_is ∙ back.number_is

  tailed_bounded : (number : ℕ) → fits number → length (compact_bytes number) ≤ longest
  tailed_bounded number number_fits = compact_bound most limit longest number suits (tails.below number number_fits)

  pub tailed_part : IsPart compact_bytes fits (tailed_refusal most limit tail) longest (λ bytes. number_in (mode_of bytes) bytes) (λ bytes. bytes_in (mode_of bytes) bytes)
  tailed_part = record {
    head = tailed_head;
    kept = tailed_kept;
    back = tailed_back;
    persists = tailed_persists;
    no_trailing = λ bytes some. tailed_no_trailing (mode_of bytes) bytes some;
    bounded = tailed_bounded;
    short = λ bytes some. tailed_short (mode_of bytes) bytes some;
  }

-- ## The types

pub suits_u16 : Suits 0 (2 ^ 16) 4
suits_u16 = record {
  few = omega arith;
  bounded = lit≤ tt;
  holds = λ number fits above. absurd (omega arith);
  four = omega arith;
  reaches = omega arith;
}

pub suits_u32 : Suits 4 (2 ^ 32) 5
suits_u32 = record {
  few = omega arith;
  bounded = lit≤ tt;
  holds = λ number fits above. (least_bytes_is number (omega arith)).least 4 (omega arith) fits;
  four = omega arith;
  reaches = omega arith;
}

pub suits_u64 : Suits 8 (2 ^ 64) 9
suits_u64 = record {
  few = omega arith;
  bounded = lit≤ tt;
  holds = λ number fits above. (least_bytes_is number fits).least 8 (omega arith) fits;
  four = omega arith;
  reaches = omega arith;
}

no_tail : (limit : ℕ) → HasTail limit (λ number. number < limit) (λ _. [])
no_tail limit = record {
  enters = λ number fits _. fits;
  below = λ number fits. fits;
  passes = λ number fits. refl;
  not_short = λ number some. cc;
  no_trailing = λ number some. cc;
}

pub compact_part : (most limit longest : ℕ) → Suits most limit longest
    → IsPart compact_bytes (λ number. number < limit) (compact_refusal most limit) longest
    (λ bytes. number_in (mode_of bytes) bytes) (λ bytes. bytes_in (mode_of bytes) bytes)
compact_part most limit longest suits = tailed_part most limit longest (λ number. number < limit) (λ _. []) suits (no_tail limit)

compact_laws : (most limit longest : ℕ) → Suits most limit longest → IsWire (compact_form most limit longest)
compact_laws most limit longest suits =
    part_laws compact_bytes (λ number. number < limit) (compact_refusal most limit) longest
    (λ bytes. number_in (mode_of bytes) bytes) (λ bytes. bytes_in (mode_of bytes) bytes) (compact_part most limit longest suits)

pub compact_u16_laws : IsWire compact_u16
compact_u16_laws = compact_laws 0 (2 ^ 16) 4 suits_u16

pub compact_u32_laws : IsWire compact_u32
compact_u32_laws = compact_laws 4 (2 ^ 32) 5 suits_u32

pub compact_u64_laws : IsWire compact_u64
compact_u64_laws = compact_laws 8 (2 ^ 64) 9 suits_u64

abbrev length_tail : ℕ → ℕ → List (Bool × Why)
length_tail limit number = (nat_lt limit number, TooMany) ∷ []

limit_tail : (limit : ℕ) → limit < 2 ^ 32 → HasTail (2 ^ 32) (λ number. number ≤ limit) (length_tail limit)
limit_tail limit fits = record {
  enters = λ number below. by_reason (λ answer. answer ≡ None → number ≤ limit) (length_tail limit number) []
      ((λ over is. cc), (λ within is. ltb-false limit number within));
  below = λ number within. omega arith;
  passes = λ number within. rw (le-ltb limit number within);
  not_short = λ number. by_reason (λ answer. answer ≡ Some Short → ⊥) (length_tail limit number) []
      ((λ over is. cc), (λ within is. cc));
  no_trailing = λ number. by_reason (λ answer. answer ≡ Some Trailing → ⊥) (length_tail limit number) []
      ((λ over is. cc), (λ within is. cc));
}

pub length_part : (limit : ℕ) → limit < 2 ^ 32
    → IsPart compact_bytes (λ number. number ≤ limit) (length_refusal limit) 5
    (λ bytes. number_in (mode_of bytes) bytes) (λ bytes. bytes_in (mode_of bytes) bytes)
length_part limit fits = tailed_part 4 (2 ^ 32) 5 (λ number. number ≤ limit) (length_tail limit) suits_u32 (limit_tail limit fits)

pub length_laws : (limit : ℕ) → limit < 2 ^ 32 → IsWire (length_form limit)
length_laws limit fits =
    part_laws compact_bytes (λ number. number ≤ limit) (length_refusal limit) 5
    (λ bytes. number_in (mode_of bytes) bytes) (λ bytes. bytes_in (mode_of bytes) bytes) (length_part limit fits)

-- a compact u32 over the limit
pub too_many : (limit number : ℕ) (rest : List ℕ) → limit < 2 ^ 32 → number < 2 ^ 32 → limit < number
    → length_refusal limit (compact_bytes number ++ rest) ≡ Some TooMany
too_many limit number rest fits below over =
    tail_decides 4 (2 ^ 32) 5 (λ number. number ≤ limit) (length_tail limit) suits_u32 (limit_tail limit fits) number rest (Some TooMany) below
    (rw (lt-ltb limit number over))
