-- Proofs about tables of reasons.
use Rattle.std.specs.Prelude.{◌≡◌, Bool, true, false, List, [], ◌∷◌, ◌++◌, Option, Some, refl}
use Rattle.scale_wire.specs.declared.fault.Why.{Why}
use Rattle.scale_wire.specs.Refusal.{first_reason}

-- `Holds` of each reason of the table, where it is the first that applies; where none applies,
-- there is `beyond`.
abbrev pub ByReason : (Option Why → Type 0) → Type 0 → List (Bool × Why) → Type 0
ByReason Holds beyond [] = beyond
ByReason Holds beyond (reason ∷ more) =
    (reason.0 ≡ true → Holds (Some reason.1)) × (reason.0 ≡ false → ByReason Holds beyond more)

-- What holds of the answer of a table: to be seen reason by reason, and then for what stands behind
-- the table.
pub by_reason : (Holds : Option Why → Type 0) (reasons more : List (Bool × Why))
    → ByReason Holds (Holds (first_reason more)) reasons → Holds (first_reason (reasons ++ more))
by_reason Holds [] more cases = cases
by_reason Holds ((true, why) ∷ reasons) more cases = cases.0 refl
by_reason Holds ((false, why) ∷ reasons) more cases = by_reason Holds reasons more (cases.1 refl)
