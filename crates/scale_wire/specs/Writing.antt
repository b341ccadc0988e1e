-- What a pen has after a call.
use Rattle.std.specs.Prelude.{◌≡◌, List, ℕ, ◌++◌, Result, MatchResult}

-- the bytes were appended, or memory ran out and nothing was written
abbrev pub Appends : {T E : Type 0} → List ℕ → Result T E → List ℕ → List ℕ → Type 0
Appends bytes result old new = MatchResult result (λ _. new ≡ old ++ bytes) (λ _. new ≡ old)
