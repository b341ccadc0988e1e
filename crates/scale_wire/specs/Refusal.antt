-- The first reason that applies.
use Rattle.std.specs.Prelude.{ℕ, Bool, List, [], ◌∷◌, Option, Some, None, if◌then◌else◌, nat_lt, length}
use Rattle.scale_wire.specs.declared.fault.Why.{Why}

-- Each reason stands beside whether it applies, in the order in which they are looked at.
abbrev pub first_reason : List (Bool × Why) → Option Why
first_reason [] = None
first_reason (reason ∷ more) = if reason.0 then Some reason.1 else first_reason more

-- fewer bytes are left than the part has
abbrev pub lacks : ℕ → List ℕ → Bool
lacks count bytes = nat_lt (length bytes) count
