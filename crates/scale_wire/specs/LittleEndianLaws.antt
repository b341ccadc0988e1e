-- Bytes and numbers, the least significant first: each gives the other back.
use Rattle.std.proofs.Common.{◌≡◌, ℕ, zero, suc, ◌+◌, ◌-◌, ◌*◌, ◌/◌, ◌%◌, ◌^◌, ◌<◌, ◌≤◌, List, [], ◌∷◌, length, take, slice_index, refl, sym, ap, ap₂, ◌∙◌, subst, arith}
use Rattle.std.proofs.Math.Nat.{pow-suc, pow-succ', div-div-eq-div-mul}
use Rattle.std.proofs.lemmas.List.{take_all}
use Rattle.std.specs.Int.{Width, w8, w16, w32, w64, w128, byte_len, byte_at, from_le_bytes, to_le_bytes, bytes_low_first, sum_through, byte_worth}
use Rattle.scale_wire.specs.Form.{IsBytes}
use Rattle.scale_wire.specs.LittleEndian.{little_endian, number_from}

pub length-little_endian : (count number : ℕ) → length (little_endian count number) ≡ count
unfolding little_endian
length-little_endian zero number = refl
length-little_endian (suc count) number = ap suc (length-little_endian count (number / 256))

pub number_from-little_endian : (count number : ℕ) → number < 256 ^ count → number_from (little_endian count number) ≡ number
unfolding little_endian number_from
number_from-little_endian zero number below = let e : 256 ^ 0 ≡ 1 = refl in omega arith
number_from-little_endian (suc count) number below =
    let power : 256 ^ suc count ≡ 256 * 256 ^ count = pow-succ' 256 count in
    let high : number / 256 < 256 ^ count = omega arith in
    omega (arith, number_from-little_endian count (number / 256) high)

pub little_endian-number_from : (bytes : List ℕ) → IsBytes bytes → little_endian (length bytes) (number_from bytes) ≡ bytes
unfolding little_endian number_from
little_endian-number_from [] are_bytes = refl
little_endian-number_from (byte ∷ bytes) are_bytes =
    let low : (byte + 256 * number_from bytes) % 256 ≡ byte = omega (arith, are_bytes.0) in
    let high : (byte + 256 * number_from bytes) / 256 ≡ number_from bytes = omega (arith, are_bytes.0) in
    rw (low, high) (ap (λ rest. byte ∷ rest) (little_endian-number_from bytes are_bytes.1))

pub number_from-bound : (bytes : List ℕ) → IsBytes bytes → number_from bytes < 256 ^ length bytes
unfolding number_from
number_from-bound [] are_bytes = let e : 256 ^ 0 ≡ 1 = refl in omega arith
number_from-bound (byte ∷ bytes) are_bytes =
    let power : 256 ^ suc (length bytes) ≡ 256 * 256 ^ length bytes = pow-succ' 256 (length bytes) in
    omega (arith, are_bytes.0, number_from-bound bytes are_bytes.1)

pub are_bytes-little_endian : (count number : ℕ) → IsBytes (little_endian count number)
unfolding little_endian
are_bytes-little_endian zero number = tt
are_bytes-little_endian (suc count) number = (omega arith, are_bytes-little_endian count (number / 256))

-- the last byte is the highest: where it is zero, one byte less holds the number, and otherwise not
pub last_zero : (count : ℕ) (bytes : List ℕ) → IsBytes bytes → length bytes ≡ suc count → slice_index bytes count ≡ 0
    → number_from bytes < 256 ^ count
unfolding number_from
last_zero count [] are_bytes long zero_last = absurd (omega arith)
last_zero zero (byte ∷ bytes) are_bytes long zero_last =
    let none : length bytes ≡ 0 = omega arith in
    let e : 256 ^ 0 ≡ 1 = refl in
    let rest : number_from bytes < 256 ^ length bytes = number_from-bound bytes are_bytes.1 in
    let rest' : number_from bytes < 256 ^ 0 = subst (λ n. number_from bytes < 256 ^ n) none rest in
    omega arith
last_zero (suc count) (byte ∷ bytes) are_bytes long zero_last =
    let power : 256 ^ suc count ≡ 256 * 256 ^ count = pow-succ' 256 count in
    let long' : length bytes ≡ suc count = omega arith in
    omega (arith, are_bytes.0, last_zero count bytes are_bytes.1 long' zero_last)

pub last_not_zero : (count : ℕ) (bytes : List ℕ) → length bytes ≡ suc count → 0 < slice_index bytes count
    → 256 ^ count ≤ number_from bytes
unfolding number_from
last_not_zero count [] long positive = absurd (omega arith)
last_not_zero zero (byte ∷ bytes) long positive = let e : 256 ^ 0 ≡ 1 = refl in omega arith
last_not_zero (suc count) (byte ∷ bytes) long positive =
    let power : 256 ^ suc count ≡ 256 * 256 ^ count = pow-succ' 256 count in
    let long' : length bytes ≡ suc count = omega arith in
    omega (arith, last_not_zero count bytes long' positive)

-- ## The names that Rust has for the same

byte_at_is : (place number : ℕ) → byte_at place number ≡ number / 256 ^ place % 256
byte_at_is zero number = omega arith
byte_at_is (suc place) number = refl

shifted : (place number : ℕ) → number / 256 ^ suc place ≡ number / 256 ^ place / 256
shifted place number = ap (λ worth. number / worth) (pow-suc 256 place) ∙ sym (div-div-eq-div-mul number (256 ^ place) 256)

bytes_from : (place count number : ℕ) → bytes_low_first place count number ≡ little_endian count (number / 256 ^ place)
unfolding little_endian
bytes_from place zero number = refl
bytes_from place (suc count) number =
    ap₂ (λ (byte : ℕ) (rest : List ℕ). byte ∷ rest) (byte_at_is place number)
    (bytes_from (suc place) count number ∙ ap (λ n. little_endian count n) (shifted place number))

pub to_le_bytes-little_endian : (width : Width) (number : ℕ) → to_le_bytes width number ≡ little_endian (byte_len width) number
to_le_bytes-little_endian width number =
    let whole : number / 256 ^ 0 ≡ number = omega arith in
    bytes_from 0 (byte_len width) number ∙ ap (λ n. little_endian (byte_len width) n) whole

-- one byte more
number_from-take : (count : ℕ) (bytes : List ℕ)
    → number_from (take (suc count) bytes) ≡ number_from (take count bytes) + slice_index bytes count * 256 ^ count
unfolding number_from
number_from-take zero [] = refl
number_from-take zero (byte ∷ bytes) = omega arith
number_from-take (suc count) [] = omega arith
number_from-take (suc count) (byte ∷ bytes) = rw (pow-succ' 256 count) (omega (arith, number_from-take count bytes))

worth_is : (place byte : ℕ) → byte_worth place byte ≡ byte * 256 ^ place
worth_is zero byte = omega arith
worth_is (suc place) byte = refl

worth_through : (count : ℕ) (bytes : List ℕ)
    → sum_through (λ i. byte_worth i (slice_index bytes i)) count ≡ number_from (take (suc count) bytes)
unfolding number_from
worth_through zero [] = refl
worth_through zero (byte ∷ bytes) = omega arith
worth_through (suc count) bytes =
    omega (arith, worth_through count bytes, number_from-take (suc count) bytes, worth_is (suc count) (slice_index bytes (suc count)))

some_byte : (width : Width) → 0 < byte_len width
some_byte w8 = omega arith
some_byte w16 = omega arith
some_byte w32 = omega arith
some_byte w64 = omega arith
some_byte w128 = omega arith

pub from_le_bytes-number_from : (width : Width) (bytes : List ℕ) → length bytes ≡ byte_len width
    → from_le_bytes width bytes ≡ number_from bytes
from_le_bytes-number_from width bytes long =
    let all : length bytes ≤ suc (byte_len width - 1) = omega (arith, some_byte width) in
    worth_through (byte_len width - 1) bytes ∙ ap (λ b. number_from b) (take_all (suc (byte_len width - 1)) bytes all)
