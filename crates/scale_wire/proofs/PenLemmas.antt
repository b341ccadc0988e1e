-- What the pen writes is the spelling.
use Rattle.std.specs.Prelude.{◌≡◌, ℕ, zero, suc, ◌+◌, ◌-◌, ◌*◌, ◌/◌, ◌%◌, ◌^◌, ◌<◌, ◌≤◌, List, [], ◌∷◌, ◌++◌, take, refl}
use Rattle.std.proofs.Common.{sym, ◌∙◌, ap, ap₂, arith, append-nil}
use Rattle.scale_wire.specs.LittleEndian.{little_endian}
use Rattle.scale_wire.specs.Compact.{compact_bytes, least_bytes}
use Rattle.scale_wire.specs.CompactSpellingLaws.{compact_one, compact_two, compact_four, compact_big}

take_little_endian : (count total number : ℕ) → count ≤ total → take count (little_endian total number) ≡ little_endian count number
unfolding little_endian
take_little_endian zero total number within = refl
take_little_endian (suc count) zero number within = absurd (omega arith)
take_little_endian (suc count) (suc total) number within =
    ap (λ (rest : List ℕ). number % 256 ∷ rest) (take_little_endian count total (number / 256) (omega arith))

pub one_written : (number : ℕ) → number < 64 → little_endian 1 (number * 4) ≡ compact_bytes number
one_written number below =
    let same : number * 4 ≡ 4 * number = omega arith in
    ap (λ (n : ℕ). little_endian 1 n) same ∙ sym (compact_one number below)

pub two_written : (number : ℕ) → 64 ≤ number → number < 2 ^ 14 → little_endian 2 (number * 4 + 1) ≡ compact_bytes number
two_written number above below =
    let same : number * 4 + 1 ≡ 4 * number + 1 = omega arith in
    ap (λ (n : ℕ). little_endian 2 n) same ∙ sym (compact_two number above below)

pub four_written : (number : ℕ) → 2 ^ 14 ≤ number → number < 2 ^ 30 → little_endian 4 (number * 4 + 2) ≡ compact_bytes number
four_written number above below =
    let same : number * 4 + 2 ≡ 4 * number + 2 = omega arith in
    ap (λ (n : ℕ). little_endian 4 n) same ∙ sym (compact_four number above below)

pub big_written : (number count : ℕ) (bytes : List ℕ) → 2 ^ 30 ≤ number → count ≡ least_bytes number → count ≤ 8
    → bytes ≡ little_endian 8 number → take (1 + count) (((count - 4) * 4 + 3) ∷ (bytes ++ [])) ≡ compact_bytes number
big_written number count bytes above count_is few bytes_is =
    let next : 1 + count ≡ suc count = omega arith in
    let head : (count - 4) * 4 + 3 ≡ 4 * (count - 4) + 3 = omega arith in
    ap (λ (n : ℕ). take n (((count - 4) * 4 + 3) ∷ (bytes ++ []))) next
    ∙ (ap₂ (λ (byte : ℕ) (rest : List ℕ). byte ∷ rest) head
    (ap (λ (b : List ℕ). take count b) (append-nil bytes ∙ bytes_is) ∙ take_little_endian count 8 number few)
    ∙ (ap (λ (n : ℕ). (4 * (n - 4) + 3) ∷ little_endian n number) count_is
    ∙ sym (compact_big number above)))
