-- Accounts keep the laws of a form.
use Rattle.std.specs.Prelude.{◌≡◌, ℕ, ◌^◌, ◌<◌, List, ◌++◌, length, take, drop}
use Rattle.std.proofs.Common.{sym, subst, arith, length-append}
use Rattle.std.proofs.lemmas.List.{take-append-drop, length-take-le, length-drop}
use Rattle.std.specs.Int.{w128, from_be_bytes, to_be_bytes}
use Rattle.npos_base.specs.Account.{account_bytes, account_of}
use Rattle.npos_base.specs.declared.account.AccountId.{AccountId}
use Rattle.npos_base.proofs.AccountBytes.{bytes_kept, account_kept}
use Rattle.npos_base.proofs.BigEndian.{length_high_first, from_sixteen, value_of_bytes, value_below}
use Rattle.scale_wire.specs.Form.{IsBytes, IsWire}
use Rattle.scale_wire.specs.FormLaws.{IsBytes-front, IsBytes-rest}
use Rattle.scale_wire.specs.Parts.{account_form}
use Rattle.scale_wire.specs.PartLaws.{IsFixedSize, whole_laws}

abbrev pub fits_account : AccountId → Type 0
fits_account account = (account.hi < 2 ^ 128) × (account.lo < 2 ^ 128)

half_fits : (bytes : List ℕ) → IsBytes bytes → length bytes ≡ 16 → from_be_bytes w128 bytes < 2 ^ 128
half_fits bytes are_bytes long =
    subst (λ (n : ℕ). n < 2 ^ 128) (sym (from_sixteen bytes long))
    (subst (λ (n : ℕ). value_of_bytes bytes < 256 ^ n) long (value_below bytes are_bytes))

account_fits : (bytes : List ℕ) → IsBytes bytes → length bytes ≡ 32 → fits_account (account_of bytes)
account_fits bytes are_bytes long =
    let joined : IsBytes (take 16 bytes ++ drop 16 bytes) = subst (λ (b : List ℕ). IsBytes b) (sym (take-append-drop 16 bytes)) are_bytes in (
      half_fits (take 16 bytes) (IsBytes-front (take 16 bytes) (drop 16 bytes) joined) (length-take-le 16 bytes (omega arith)),
      half_fits (drop 16 bytes) (IsBytes-rest (take 16 bytes) (drop 16 bytes) joined) (omega (arith, length-drop {A = ℕ} 16 bytes)),
    )

account_long : (account : AccountId) → length (account_bytes account) ≡ 32
account_long account = omega (arith, length-append (to_be_bytes w128 account.hi) (to_be_bytes w128 account.lo), length_high_first 16 account.hi, length_high_first 16 account.lo)

account_whole : IsFixedSize 32 account_bytes fits_account account_of
account_whole = record {
  long = λ account _. account_long account;
  in_range = account_fits;
  spelled = λ bytes are_bytes long. bytes_kept bytes long are_bytes;
  back = λ account fits. account_kept account fits.0 fits.1;
}

pub account_laws : IsWire account_form
account_laws = whole_laws 32 account_bytes fits_account account_of account_whole

-- 32 bytes are the account that they make
pub account_is : (bytes : List ℕ) → length bytes ≡ 32 → IsBytes bytes
    → fits_account (account_of bytes) × (account_bytes (account_of bytes) ≡ bytes)
account_is bytes long are_bytes = (account_fits bytes are_bytes long, bytes_kept bytes long are_bytes)
