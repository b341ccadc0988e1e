-- The reading of a text, by what is known of its bytes.
use Rattle.std.proofs.Common.{◌≡◌, ℕ, Bool, true, false, cond, List, Some, None, IsUtf8, refl}
use Rattle.std.specs.Str.{is_utf8}
use Rattle.std.proofs.lemmas.Str.{is_utf8-from_IsUtf8, IsUtf8-from_is_utf8}
use Rattle.serde_json.specs.Data.{Data}
use Rattle.serde_json.specs.Read.{read}
use Rattle.bundle_json.specs.Text.{reading}

pub has_reading : (text : List ℕ) (value : Data) → IsUtf8 text → read text ≡ Some value → reading text ≡ Some value
has_reading text value utf8 is = rw (is_utf8-from_IsUtf8 text utf8) is

pub has_no_reading : (text : List ℕ) → (IsUtf8 text → read text ≡ None) → reading text ≡ None
has_no_reading text none = by (is_utf8 text) refl where
  by : (b : Bool) → is_utf8 text ≡ b → cond b (read text) None ≡ None
  by true e = none (IsUtf8-from_is_utf8 text e)
  by false e = refl
