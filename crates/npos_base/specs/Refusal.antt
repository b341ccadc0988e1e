-- A call that may be refused: which answer it owes, and what it makes of its object.
-- `memory` is the error that tells want of memory, the one answer that needs no cause; a room gives it once.
use Rattle.std.specs.Prelude.{◌≡◌, ◌≢◌, Option, Some, None, Result, Ok, Err, OnOk, OnErr, IfErr}

-- an error other than want of memory is the first refusal that stands
abbrev pub IsDue : {E : Type 0} → E → Option E → E → Type 0
IsDue memory due error = error ≢ memory → due ≡ Some error

-- the answer of a call that takes no memory
abbrev pub answer_of : {E : Type 0} → Option E → Result (Unit {0}) E
answer_of None = Ok tt
answer_of (Some refusal) = Err refusal

-- no refusal stands and the new state is the effect, or nothing changed and the answer is the
-- refusal that is due
pub record Meets {S T E : Type 0} (memory : E) (due : Option E) (effect old new : S)
    (result : Result T E) : Type 0 where
  pub ok : OnOk result ((due ≡ None) × (new ≡ effect))
  pub refused : IfErr result (IsDue memory due)
  pub unchanged : OnErr result (new ≡ old)

-- the same of a call that takes no memory: each of its errors is the refusal that stands
pub record MeetsAlways {S T E : Type 0} (due : Option E) (effect old new : S) (result : Result T E)
    : Type 0 where
  pub ok : OnOk result ((due ≡ None) × (new ≡ effect))
  pub refused : IfErr result (λ refusal. due ≡ Some refusal)
  pub unchanged : OnErr result (new ≡ old)

-- the same of a call that may leave its object in any state after want of memory
pub record MeetsWhileRoom {S T E : Type 0} (memory : E) (due : Option E) (effect old new : S)
    (result : Result T E) : Type 0 where
  pub ok : OnOk result ((due ≡ None) × (new ≡ effect))
  pub refused : IfErr result (IsDue memory due)
  pub unchanged : IfErr result (λ error. error ≢ memory → new ≡ old)
