-- What follows for every type that is spelled in SCALE.
use Rattle.std.specs.Prelude.{◌≡◌, ◌≢◌, ◌⊎◌, ℕ, List, ◌++◌, length}
use Rattle.scale_wire.specs.declared.fault.Why.{Why}
use Rattle.scale_wire.specs.declared.fault.Why.TheVariants.{Short, Trailing}
use Rattle.scale_wire.specs.Form.{IsBytes, Form, Begins, IsRefused, IsAtMost, IsBelow}
use Rattle.scale_wire.specs.Reading.{BadWhole}

-- a value is read back from its spelling, whatever follows
abbrev pub IsReadBack : {V : Type 0} → Form V → Type 0
IsReadBack {V} form = (x : V) (rest : List ℕ) → form.in_range x
    → (read : Begins form (form.spelling x ++ rest)) → (read.value ≡ x) × (read.rest ≡ rest)

-- Bytes begin with the spelling of one value in range, or they are refused at one place and for one
-- reason, and never both.
pub record IsDecided {V : Type 0} (form : Form V) : Type 0 where
  pub either : (bytes : List ℕ) → IsBytes bytes → Begins form bytes ⊎ IsRefused form bytes
  pub never_both : (bytes : List ℕ) → Begins form bytes → IsRefused form bytes → ⊥
  pub one_value : (bytes : List ℕ) (a b : Begins form bytes)
      → (a.value ≡ b.value) × (a.rest ≡ b.rest)
  pub one_fault : (bytes : List ℕ) (a b : IsRefused form bytes) → (a.at ≡ b.at) × (a.why ≡ b.why)

-- the bytes are the spelling of a value in range
pub record IsWhole {V : Type 0} (form : Form V) (bytes : List ℕ) : Type 0 where
  pub value : V
  pub in_range : form.in_range value
  pub whole : bytes ≡ form.spelling value

-- the bytes are refused as a whole input
pub record IsRefusedWhole {V : Type 0} (form : Form V) (bytes : List ℕ) : Type 0 where
  pub at : ℕ
  pub why : Why
  pub bad : BadWhole form bytes at why

-- the same of a whole input: it is the spelling of one value in range, or refused at one place and
-- for one reason, and never both
pub record IsDecidedWhole {V : Type 0} (form : Form V) : Type 0 where
  pub either : (bytes : List ℕ) → IsBytes bytes → IsWhole form bytes ⊎ IsRefusedWhole form bytes
  pub never_both : (bytes : List ℕ) → IsWhole form bytes → IsRefusedWhole form bytes → ⊥
  pub one_value : (bytes : List ℕ) (a b : IsWhole form bytes) → a.value ≡ b.value
  pub one_fault : (bytes : List ℕ) (a b : IsRefusedWhole form bytes)
      → (a.at ≡ b.at) × (a.why ≡ b.why)

-- A refusal that is not for missing bytes stands whatever follows, so bytes that come in pieces
-- need not all be there.
abbrev pub FaultsPersist : {V : Type 0} → Form V → Type 0
FaultsPersist form = (bytes more : List ℕ) (at : ℕ) (why : Why)
    → IsBytes bytes → why ≢ Short → form.bad bytes at why → form.bad (bytes ++ more) at why

-- no bytes are refused as Trailing: that is for a byte behind a value that must be the whole input
abbrev pub NeverTrails : {V : Type 0} → Form V → Type 0
NeverTrails form = (bytes : List ℕ) (at : ℕ) → form.bad bytes at Trailing → ⊥

-- where there is a longest spelling, each has at most as many bytes, and where bytes are missing there
-- are fewer
pub record IsBounded {V : Type 0} (form : Form V) : Type 0 where
  pub spelling : (x : V) → form.in_range x → IsAtMost (length (form.spelling x)) form.longest
  pub missing : (bytes : List ℕ) (at : ℕ) → form.bad bytes at Short
      → IsBelow (length bytes) form.longest
