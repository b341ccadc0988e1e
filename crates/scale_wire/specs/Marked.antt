-- Types that are spelled in one of two forms, the plain and the wide one: a byte, the mark, stands
-- before a wide spelling, and no plain spelling begins with it.
use Rattle.std.specs.Prelude.{◌≡◌, ◌⊎◌, ℕ, ◌+◌, Bool, true, false, nat_eq, List, [], ◌∷◌, drop, Some}
use Rattle.scale_wire.specs.declared.fault.Why.{Why}
use Rattle.scale_wire.specs.Form.{Form, both, either}

abbrev pub begins_with : ℕ → List ℕ → Bool
begins_with mark [] = false
begins_with mark (first ∷ rest) = nat_eq first mark

abbrev pub marked_bytes : {V : Type 0} → ℕ → Form V → Form V → Bool → V → List ℕ
marked_bytes mark plain wide true value = mark ∷ wide.spelling value
marked_bytes mark plain wide false value = plain.spelling value

-- what stands behind the first byte is refused
pub record BadBehindMark (bad : List ℕ → ℕ → Why → Type 0) (bytes : List ℕ) (at : ℕ) (why : Why)
    : Type 0 where
  pub place : ℕ
  pub at_is : at ≡ 1 + place
  pub refused : bad (drop 1 bytes) place why

abbrev pub BadMarked : {V : Type 0} → Form V → Form V → Bool → List ℕ → ℕ → Why → Type 0
BadMarked plain wide true = BadBehindMark wide.bad
BadMarked plain wide false = plain.bad

-- Bytes that begin with the mark are read in the wide form behind it, and all others in the plain
-- form. A value is spelled in the form that it is in; `is_wide` tells which.
abbrev pub marked : {V : Type 0} → ℕ → (V → Bool) → Form V → Form V → Form V
marked mark is_wide plain wide = record {
  spelling = λ value. marked_bytes mark plain wide (is_wide value) value;
  in_range = λ value. plain.in_range value ⊎ wide.in_range value;
  bad = λ bytes. BadMarked plain wide (begins_with mark bytes) bytes;
  longest = either plain.longest (both (Some 1) wide.longest);
}
