-- Bytes, as SCALE and hexadecimal texts speak of them.
use Rattle.std.proofs.Common.{◌≡◌, ℕ, zero, suc, ◌^◌, ◌/◌, ◌<◌, List, [], ◌∷◌, length, arith, lit<, length-append}
use Rattle.std.proofs.Math.Nat.{mod-lt}
use Rattle.std.specs.Int.{w128, to_be_bytes, bytes_high_first, byte_at}
use Rattle.hex.specs.Hex as hex
use Rattle.npos_base.specs.Account.{account_bytes}
use Rattle.npos_base.specs.declared.account.AccountId.{AccountId}
use Rattle.npos_base.proofs.AccountBytes.{are_bytes}
use Rattle.npos_base.proofs.BigEndian.{length_high_first}
use Rattle.scale_wire.specs.Form.{IsBytes}
use Rattle.scale_wire.specs.FormLaws.{IsBytes-append}

pub hex_bytes : (bytes : List ℕ) → IsBytes bytes → hex.IsBytes bytes
hex_bytes [] h i = lit< tt
hex_bytes (b ∷ bytes) h zero = h.0
hex_bytes (b ∷ bytes) h (suc i) = hex_bytes bytes h.1 i

pub wire_bytes : (bytes : List ℕ) → hex.IsBytes bytes → IsBytes bytes
wire_bytes bytes h = are_bytes bytes h

byte_small : (k n : ℕ) → byte_at k n < 256
byte_small zero n = mod-lt n (omega arith)
byte_small (suc k) n = mod-lt (n / 256 ^ suc k) (omega arith)

digits_are_bytes : (k n : ℕ) → IsBytes (bytes_high_first k n)
digits_are_bytes zero n = tt
digits_are_bytes (suc k) n = (byte_small k n, digits_are_bytes k n)

pub account_are_bytes : (account : AccountId) → IsBytes (account_bytes account)
account_are_bytes account = IsBytes-append (to_be_bytes w128 account.hi) (to_be_bytes w128 account.lo) (digits_are_bytes 16 account.hi) (digits_are_bytes 16 account.lo)

pub account_long : (account : AccountId) → length (account_bytes account) ≡ 32
account_long account = omega (arith, length-append (to_be_bytes w128 account.hi) (to_be_bytes w128 account.lo), length_high_first 16 account.hi, length_high_first 16 account.lo)
