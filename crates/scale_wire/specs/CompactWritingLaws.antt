-- From a compact integer to its bytes, and back.
use Rattle.std.specs.Prelude.{◌≡◌, ◌⊎◌, ℕ, suc, ◌+◌, ◌-◌, ◌*◌, ◌/◌, ◌%◌, ◌^◌, ◌<◌, ◌≤◌, Bool, true, false, ◌||◌, List, ◌∷◌, ◌++◌, length, take, slice_index, refl}
use Rattle.std.proofs.Common.{sym, ◌∙◌, ap, subst, inl, inr, arith, length-append}
use Rattle.std.proofs.lemmas.Bool.{cases_lt, le-ltb, ne_eqb}
use Rattle.std.proofs.lemmas.List.{take_at, get_or_append_left}
use Rattle.scale_wire.specs.LittleEndian.{little_endian, number_from}
use Rattle.scale_wire.specs.LittleEndianLaws.{length-little_endian, number_from-little_endian, are_bytes-little_endian, last_zero}
use Rattle.scale_wire.specs.Compact.{Mode, OneByte, TwoBytes, FourBytes, Big, mode_numbered, mode_of, number_in, least_bytes, compact_bytes}
use Rattle.scale_wire.specs.CompactSpellingLaws.{compact_one, compact_two, compact_four, compact_big, least_is, width_of}
use Rattle.scale_wire.specs.CompactReadingLaws.{Kept, first_of_number}
use Rattle.scale_wire.specs.CompactRange.{Suits}

-- ## From a number to its bytes and back

-- a number's spelling, with whatever behind it, is kept and gives the number
pub record GivesBack (most limit number : ℕ) (bytes : List ℕ) : Type 0 where
  pub mode : Mode
  pub mode_is : mode_of bytes ≡ mode
  pub kept : Kept most limit mode bytes
  pub number_is : number_in mode bytes ≡ number

fixed_back : (count number : ℕ) (rest : List ℕ) → number < 256 ^ suc count
    → (number_from (take (suc count) (little_endian (suc count) number ++ rest)) ≡ number)
    × (slice_index (little_endian (suc count) number ++ rest) 0 % 4 ≡ number % 4)
    × (suc count ≤ length (little_endian (suc count) number ++ rest))
fixed_back count number rest below =
    let long : length (little_endian (suc count) number) ≡ suc count = length-little_endian (suc count) number in
    let number_is : number_from (take (suc count) (little_endian (suc count) number ++ rest)) ≡ number =
    ap number_from (take_at (little_endian (suc count) number) rest (suc count) long) ∙ number_from-little_endian (suc count) number below in (
      number_is,
      sym (first_of_number count (little_endian (suc count) number ++ rest)) ∙ ap (λ (n : ℕ). n % 4) number_is,
      omega (arith, length-append (little_endian (suc count) number) rest),
    )

back_one : (most limit number : ℕ) (rest : List ℕ) → number < limit → number < 64
    → GivesBack most limit number (little_endian 1 (4 * number) ++ rest)
unfolding little_endian
back_one most limit number rest fits below =
    let low : 4 * number % 256 % 4 ≡ 0 = omega arith in
    let same : 4 * number % 256 / 4 ≡ number = omega arith in
    record {
      mode = OneByte;
      mode_is = ap mode_numbered low;
      kept = record {
        some = omega arith;
        announced_fits = refl;
        whole = omega arith;
        shortest = refl;
        below = omega arith;
      };
      number_is = same;
    }

back_two : (most limit number : ℕ) (rest : List ℕ) → number < limit → 64 ≤ number → number < 2 ^ 14
    → GivesBack most limit number (little_endian 2 (4 * number + 1) ++ rest)
back_two most limit number rest fits above below =
    let back = fixed_back 1 (4 * number + 1) rest (omega arith) in
    let low : slice_index (little_endian 2 (4 * number + 1) ++ rest) 0 % 4 ≡ 1 = omega (arith, back.1) in
    let same : number_from (take 2 (little_endian 2 (4 * number + 1) ++ rest)) / 4 ≡ number = omega (arith, back.0) in
    record {
      mode = TwoBytes;
      mode_is = ap mode_numbered low;
      kept = record {
        some = omega (arith, back.2);
        announced_fits = refl;
        whole = back.2;
        shortest = le-ltb (number_from (take 2 (little_endian 2 (4 * number + 1) ++ rest)) / 4) 64 (omega arith);
        below = omega arith;
      };
      number_is = same;
    }

back_four : (most limit number : ℕ) (rest : List ℕ) → number < limit → 2 ^ 14 ≤ number → number < 2 ^ 30
    → GivesBack most limit number (little_endian 4 (4 * number + 2) ++ rest)
back_four most limit number rest fits above below =
    let back = fixed_back 3 (4 * number + 2) rest (omega arith) in
    let low : slice_index (little_endian 4 (4 * number + 2) ++ rest) 0 % 4 ≡ 2 = omega (arith, back.1) in
    let same : number_from (take 4 (little_endian 4 (4 * number + 2) ++ rest)) / 4 ≡ number = omega (arith, back.0) in
    record {
      mode = FourBytes;
      mode_is = ap mode_numbered low;
      kept = record {
        some = omega (arith, back.2);
        announced_fits = refl;
        whole = back.2;
        shortest = le-ltb (number_from (take 4 (little_endian 4 (4 * number + 2) ++ rest)) / 4) (2 ^ 14) (omega arith);
        below = omega arith;
      };
      number_is = same;
    }

not_last_zero : (more number : ℕ) → 2 ^ 30 ≤ number → number < 256 ^ (more + 4) → (more ≡ 0) ⊎ (256 ^ (more + 3) ≤ number)
    → slice_index (little_endian (more + 4) number) (more + 3) ≡ 0 → ⊥
not_last_zero more number above below low zero_last =
    let long : length (little_endian (more + 4) number) ≡ suc (more + 3) = omega (arith, length-little_endian (more + 4) number) in
    let less : number_from (little_endian (more + 4) number) < 256 ^ (more + 3) =
    last_zero (more + 3) (little_endian (more + 4) number) (are_bytes-little_endian (more + 4) number) long zero_last in
    let same : number_from (little_endian (more + 4) number) ≡ number = number_from-little_endian (more + 4) number below in
    elim low [
      | inl none ↦
          let three : 256 ^ (more + 3) ≡ 256 ^ 3 = ap (λ (n : ℕ). 256 ^ (n + 3)) none in
          absurd (omega arith)
      | inr over ↦ absurd (omega arith)
    ]

both_false : (a b : Bool) → a ≡ false → b ≡ false → (a || b) ≡ false
both_false true b a_false b_false = cc
both_false false b a_false b_false = b_false

back_wide : (most limit more number : ℕ) (rest : List ℕ) → more + 4 ≤ most → number < limit → 2 ^ 30 ≤ number
    → number < 256 ^ (more + 4) → (more ≡ 0) ⊎ (256 ^ (more + 3) ≤ number)
    → GivesBack most limit number ((4 * ((more + 4) - 4) + 3) ∷ (little_endian (more + 4) number ++ rest))
back_wide most limit more number rest within fits above below over =
    let low : (4 * ((more + 4) - 4) + 3) % 4 ≡ 3 = omega arith in
    let high : (4 * ((more + 4) - 4) + 3) / 4 + 4 ≡ more + 4 = omega arith in
    let long : length (little_endian (more + 4) number) ≡ more + 4 = length-little_endian (more + 4) number in
    let long_all : length (little_endian (more + 4) number ++ rest) ≡ (more + 4) + length rest =
    omega (arith, length-append (little_endian (more + 4) number) rest) in
    let number_is : number_in Big ((4 * ((more + 4) - 4) + 3) ∷ (little_endian (more + 4) number ++ rest)) ≡ number =
    ap (λ (n : ℕ). number_from (take n (little_endian (more + 4) number ++ rest))) high
    ∙ (ap number_from (take_at (little_endian (more + 4) number) rest (more + 4) long)
    ∙ number_from-little_endian (more + 4) number below) in
    let next : more + 4 ≡ suc (more + 3) = omega arith in
    let last_is : slice_index ((4 * ((more + 4) - 4) + 3) ∷ (little_endian (more + 4) number ++ rest)) ((4 * ((more + 4) - 4) + 3) / 4 + 4)
    ≡ slice_index (little_endian (more + 4) number) (more + 3) =
    ap (λ (n : ℕ). slice_index ((4 * ((more + 4) - 4) + 3) ∷ (little_endian (more + 4) number ++ rest)) n) (high ∙ next)
    ∙ get_or_append_left (little_endian (more + 4) number) rest 0 (more + 3) (omega arith) in
    record {
      mode = Big;
      mode_is = ap mode_numbered low;
      kept = record {
        some = omega arith;
        announced_fits = le-ltb most ((4 * ((more + 4) - 4) + 3) / 4 + 4) (omega arith);
        whole = omega arith;
        shortest = both_false _ _
            (le-ltb (number_in Big ((4 * ((more + 4) - 4) + 3) ∷ (little_endian (more + 4) number ++ rest))) (2 ^ 30) (omega arith))
            (ne_eqb (slice_index ((4 * ((more + 4) - 4) + 3) ∷ (little_endian (more + 4) number ++ rest)) ((4 * ((more + 4) - 4) + 3) / 4 + 4)) 0
            (λ zero_last. not_last_zero more number above below over (sym last_is ∙ zero_last)));
        below = omega arith;
      };
      number_is = number_is;
    }

back_big : (most limit longest number : ℕ) (rest : List ℕ) → Suits most limit longest → number < limit → 2 ^ 30 ≤ number
    → GivesBack most limit number ((4 * (least_bytes number - 4) + 3) ∷ (little_endian (least_bytes number) number ++ rest))
back_big most limit longest number rest suits fits above =
    let bounded : limit ≤ 256 ^ 8 = suits.bounded in
    let width = width_of number (omega arith) in
    let count_is : least_bytes number ≡ width.more + 4 = least_is width.more number width.few width.below width.above in
    let within : least_bytes number ≤ most = suits.holds number fits above in
    subst (λ (count : ℕ). GivesBack most limit number ((4 * (count - 4) + 3) ∷ (little_endian count number ++ rest))) (sym count_is)
    (back_wide most limit width.more number rest (omega arith) fits above width.below width.above)

pub gives_back : (most limit longest number : ℕ) (rest : List ℕ) → Suits most limit longest → number < limit
    → GivesBack most limit number (compact_bytes number ++ rest)
gives_back most limit longest number rest suits fits =
    elim (cases_lt number 64) [
      | inl below ↦ subst (λ (bytes : List ℕ). GivesBack most limit number (bytes ++ rest)) (sym (compact_one number below))
          (back_one most limit number rest fits below)
      | inr above ↦
          elim (cases_lt number (2 ^ 14)) [
            | inl below ↦ subst (λ (bytes : List ℕ). GivesBack most limit number (bytes ++ rest)) (sym (compact_two number above below))
                (back_two most limit number rest fits above below)
            | inr above ↦
                elim (cases_lt number (2 ^ 30)) [
                  | inl below ↦ subst (λ (bytes : List ℕ). GivesBack most limit number (bytes ++ rest)) (sym (compact_four number above below))
                      (back_four most limit number rest fits above below)
                  | inr above ↦ subst (λ (bytes : List ℕ). GivesBack most limit number (bytes ++ rest)) (sym (compact_big number above))
                      (back_big most limit longest number rest suits fits above)
                ]
          ]
    ]
