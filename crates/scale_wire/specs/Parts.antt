-- The parts that values are made of. A part is refused at its first byte, for the first reason that
-- applies.
use Rattle.std.specs.Prelude.{◌≡◌, ℕ, ◌^◌, ◌<◌, ◌≤◌, List, [], ◌∷◌, ◌++◌, length, Option, slice_index, nat_lt, nat_le}
use Rattle.scale_wire.specs.declared.fault.Why.{Why}
use Rattle.scale_wire.specs.declared.fault.Why.TheVariants.{Short, BadTag, TooMany}
use Rattle.npos_base.specs.Account.{account_bytes}
use Rattle.npos_base.specs.declared.account.AccountId.{AccountId}
use Rattle.scale_wire.specs.Form.{IsBytes, Form, part}
use Rattle.scale_wire.specs.LittleEndian.{little_endian}
use Rattle.scale_wire.specs.Refusal.{first_reason, lacks}
use Rattle.scale_wire.specs.Compact.{compact_bytes, compact_reasons, compact_refusal, mode_of, number_in}

-- what can only be too short
abbrev pub missing_refusal : ℕ → List ℕ → Option Why
missing_refusal count bytes = first_reason ((lacks count bytes, Short) ∷ [])

-- a number in a fixed number of bytes, the least significant first
abbrev pub fixed : ℕ → Form ℕ
fixed count =
    part (little_endian count) (λ number. number < 256 ^ count) (missing_refusal count) count

abbrev pub fixed_u8 : Form ℕ
fixed_u8 = fixed 1

abbrev pub fixed_u32 : Form ℕ
fixed_u32 = fixed 4

abbrev pub fixed_u128 : Form ℕ
fixed_u128 = fixed 16

-- an account, its 32 bytes as they are
abbrev pub account_form : Form AccountId
account_form =
    part account_bytes (λ account. (account.hi < 2 ^ 128) × (account.lo < 2 ^ 128))
    (missing_refusal 32) 32

-- as many bytes as a length before them says
abbrev pub byte_string : ℕ → Form (List ℕ)
byte_string count =
    part (λ bytes. bytes) (λ bytes. (length bytes ≡ count) × IsBytes bytes)
    (missing_refusal count) count

abbrev pub tag_refusal : ℕ → List ℕ → Option Why
tag_refusal below bytes =
    first_reason ((lacks 1 bytes, Short) ∷ (nat_le below (slice_index bytes 0), BadTag) ∷ [])

-- one byte below a number
abbrev pub tag_form : ℕ → Form ℕ
tag_form below = part (λ tag. tag ∷ []) (λ tag. tag < below) (tag_refusal below) 1

-- a compact integer of a type with at most `most` value bytes and the numbers below `limit`
abbrev pub compact_form : ℕ → ℕ → ℕ → Form ℕ
compact_form most limit longest =
    part compact_bytes (λ number. number < limit) (compact_refusal most limit) longest

abbrev pub compact_u16 : Form ℕ
compact_u16 = compact_form 0 (2 ^ 16) 4

abbrev pub compact_u32 : Form ℕ
compact_u32 = compact_form 4 (2 ^ 32) 5

abbrev pub compact_u64 : Form ℕ
compact_u64 = compact_form 8 (2 ^ 64) 9

abbrev pub length_refusal : ℕ → List ℕ → Option Why
length_refusal limit bytes =
    let mode = mode_of bytes in
    first_reason (compact_reasons 4 (2 ^ 32) mode bytes
    ++ (nat_lt limit (number_in mode bytes), TooMany) ∷ [])

-- the length of a list that has at most `limit` items: a compact u32
abbrev pub length_form : ℕ → Form ℕ
length_form limit = part compact_bytes (λ number. number ≤ limit) (length_refusal limit) 5
