-- What reading and writing do: how a cursor moves, what a fault says, what a pen has in the end.
use Rattle.std.specs.Prelude.{◌≡◌, ◌⊎◌, ℕ, ◌+◌, List, ◌∷◌, ◌++◌, length, Result, Ok, Err, MatchResult}
use Rattle.scale_wire.specs.declared.fault.Why.{Why}
use Rattle.scale_wire.specs.declared.fault.Why.TheVariants.{Trailing}
use Rattle.scale_wire.specs.declared.fault.WireFault.{WireFault}
use Rattle.scale_wire.specs.declared.fault.ReadFault.{ReadFault}
use Rattle.scale_wire.specs.declared.fault.ReadFault.TheVariants as faults
use Rattle.scale_wire.specs.Form.{Form}

-- where a cursor stands: the place of its next byte, and the bytes that are left
pub record Place : Type 0 where
  pub at : ℕ
  pub rest : List ℕ

-- the cursor has passed these bytes, and what was read is in range
pub record Passes (InRange : Type 0) (bytes : List ℕ) (old new : Place) : Type 0 where
  pub in_range : InRange
  pub whole : old.rest ≡ bytes ++ new.rest
  pub at_is : new.at ≡ old.at + length bytes

-- the bytes left are refused, at the place and for the reason that the fault names, and the cursor
-- stands where it stood
pub record Refuses (Bad : List ℕ → ℕ → Why → Type 0) (old : Place) (fault : WireFault) (new : Place)
    : Type 0 where
  pub place : ℕ
  pub bad : Bad old.rest place fault.why
  pub at_is : fault.at ≡ old.at + place
  pub unchanged : new ≡ old

abbrev pub IsRead : {V : Type 0} → Form V → Place → V → Place → Type 0
IsRead form old value new = Passes (form.in_range value) (form.spelling value) old new

abbrev pub IsFault : {V : Type 0} → Form V → Place → WireFault → Place → Type 0
IsFault form old fault new = Refuses form.bad old fault new

-- a reader that takes no memory: it reads a value, or refuses
abbrev pub Takes : {V : Type 0} → Form V → Place → Result V WireFault → Place → Type 0
Takes form old (Ok value) new = IsRead form old value new
Takes form old (Err fault) new = IsFault form old fault new

-- a reader that takes memory: want of memory is no fault of the bytes, and leaves the cursor where
-- it stood
abbrev pub Reads : {V : Type 0} → Form V → Place → Result V ReadFault → Place → Type 0
Reads form old (Ok value) new = IsRead form old value new
Reads form old (Err (faults.Wire fault)) new = IsFault form old fault new
Reads form old (Err faults.NoMemory) new = new ≡ old

-- a front of the spelling was appended
pub record HasFront (spelling old new : List ℕ) : Type 0 where
  pub front : List ℕ
  pub rest : List ℕ
  pub split : spelling ≡ front ++ rest
  pub new_is : new ≡ old ++ front

-- a writer appends the spelling, or a front of it where memory runs out
abbrev pub Writes : {E : Type 0} → List ℕ → List ℕ → Result Unit E → List ℕ → Type 0
Writes spelling old result new =
    MatchResult result (λ _. new ≡ old ++ spelling) (λ _. HasFront spelling old new)

-- the first `at` bytes spell a value in range, and a byte follows
pub record HasRest {V : Type 0} (form : Form V) (bytes : List ℕ) (at : ℕ) : Type 0 where
  pub value : V
  pub in_range : form.in_range value
  pub next : ℕ
  pub rest : List ℕ
  pub whole : bytes ≡ form.spelling value ++ (next ∷ rest)
  pub at_is : at ≡ length (form.spelling value)

-- a value that must be the whole input is refused as ever, or because a byte follows it
abbrev pub BadWhole : {V : Type 0} → Form V → List ℕ → ℕ → Why → Type 0
BadWhole form bytes at why = form.bad bytes at why ⊎ ((why ≡ Trailing) × HasRest form bytes at)

-- a reader of the whole input
abbrev pub ReadsWhole : {V : Type 0} → Form V → List ℕ → Result V ReadFault → Type 0
ReadsWhole form bytes (Ok value) = form.in_range value × (bytes ≡ form.spelling value)
ReadsWhole form bytes (Err (faults.Wire fault)) = BadWhole form bytes fault.at fault.why
ReadsWhole form bytes (Err faults.NoMemory) = Unit {0}
