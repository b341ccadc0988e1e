-- Compact integers. The low two bits of the first byte are the mode, which says how many bytes the
-- spelling has and how the number stands in them.
use Rattle.std.specs.Prelude.{ℕ, zero, suc, ◌+◌, ◌-◌, ◌*◌, ◌/◌, ◌%◌, ◌^◌, ◌<◌, ◌≤◌, Bool, false, ◌||◌, List, [], ◌∷◌, take, drop, slice_index, Option, if◌then◌else◌, nat_lt, nat_le, nat_eq}
use Rattle.scale_wire.specs.declared.fault.Why.{Why}
use Rattle.scale_wire.specs.declared.fault.Why.TheVariants.{Short, NotShortest, TooWide}
use Rattle.scale_wire.specs.LittleEndian.{little_endian, number_from}
use Rattle.scale_wire.specs.Refusal.{first_reason, lacks}

-- ## Spelling

-- `count` is the least number from 4 on of bytes that hold the number
pub record IsLeast (number count : ℕ) : Type 0 where
  pub from_four : 4 ≤ count
  pub holds : number < 256 ^ count
  pub least : (other : ℕ) → 4 ≤ other → number < 256 ^ other → count ≤ other

-- that count, of a number of at most 8 bytes
unfoldable pub least_bytes : ℕ → ℕ
least_bytes number =
    if nat_lt number (256 ^ 4) then 4
    else if nat_lt number (256 ^ 5) then 5
    else if nat_lt number (256 ^ 6) then 6
    else if nat_lt number (256 ^ 7) then 7
    else 8

-- The lowest two bits are the mode. The longest mode says by the upper six how many value bytes
-- follow.
unfoldable pub compact_bytes : ℕ → List ℕ
compact_bytes number =
    if nat_lt number 64 then little_endian 1 (4 * number)
    else if nat_lt number (2 ^ 14) then little_endian 2 (4 * number + 1)
    else if nat_lt number (2 ^ 30) then little_endian 4 (4 * number + 2)
    else (4 * (least_bytes number - 4) + 3) ∷ little_endian (least_bytes number) number

-- ## Reading

-- the modes 00, 01, 10 and 11
pub data Mode : Type 0 where
  OneByte : Mode
  TwoBytes : Mode
  FourBytes : Mode
  Big : Mode

abbrev pub mode_numbered : ℕ → Mode
mode_numbered zero = OneByte
mode_numbered (suc zero) = TwoBytes
mode_numbered (suc (suc zero)) = FourBytes
mode_numbered _ = Big

-- the mode that the first byte gives
abbrev pub mode_of : List ℕ → Mode
mode_of bytes = mode_numbered (slice_index bytes 0 % 4)

-- how many value bytes follow the first byte, in the mode `Big`
abbrev pub announced : List ℕ → ℕ
announced bytes = slice_index bytes 0 / 4 + 4

-- how many bytes the spelling has
abbrev pub bytes_in : Mode → List ℕ → ℕ
bytes_in OneByte bytes = 1
bytes_in TwoBytes bytes = 2
bytes_in FourBytes bytes = 4
bytes_in Big bytes = 1 + announced bytes

-- the number: in the first three modes it stands above the two bits of the mode
abbrev pub number_in : Mode → List ℕ → ℕ
number_in OneByte bytes = slice_index bytes 0 / 4
number_in TwoBytes bytes = number_from (take 2 bytes) / 4
number_in FourBytes bytes = number_from (take 4 bytes) / 4
number_in Big bytes = number_from (take (announced bytes) (drop 1 bytes))

-- more value bytes are announced than the type has
abbrev pub announces_over : ℕ → Mode → List ℕ → Bool
announces_over most Big bytes = nat_lt most (announced bytes)
announces_over most _ bytes = false

-- a shorter mode holds the number, or its last value byte is zero
abbrev pub is_longer_in : Mode → List ℕ → Bool
is_longer_in OneByte bytes = false
is_longer_in TwoBytes bytes = nat_lt (number_in TwoBytes bytes) 64
is_longer_in FourBytes bytes = nat_lt (number_in FourBytes bytes) (2 ^ 14)
is_longer_in Big bytes =
    nat_lt (number_in Big bytes) (2 ^ 30) || nat_eq (slice_index bytes (announced bytes)) 0

-- the reasons to refuse bytes as a compact integer of a type that has at most `most` value bytes
-- and the numbers below `limit`
abbrev pub compact_reasons : ℕ → ℕ → Mode → List ℕ → List (Bool × Why)
compact_reasons most limit mode bytes =
    (lacks 1 bytes, Short)
    ∷ (announces_over most mode bytes, TooWide)
    ∷ (lacks (bytes_in mode bytes) bytes, Short)
    ∷ (is_longer_in mode bytes, NotShortest)
    ∷ (nat_le limit (number_in mode bytes), TooWide)
    ∷ []

-- the first of them that applies
abbrev pub compact_refusal : ℕ → ℕ → List ℕ → Option Why
compact_refusal most limit bytes = first_reason (compact_reasons most limit (mode_of bytes) bytes)
