-- What the steps of reading a compact integer answer.
use Rattle.std.specs.Prelude.{◌≡◌, ℕ, Bool, List, [], ◌∷◌, Some, None, Result, MatchResult}
use Rattle.scale_wire.specs.declared.fault.Why.{Why}
use Rattle.scale_wire.specs.declared.fault.Why.TheVariants.{Short, NotShortest, TooWide}
use Rattle.scale_wire.specs.Refusal.{first_reason, lacks}
use Rattle.scale_wire.specs.Compact.{Mode, mode_of, bytes_in, number_in, announces_over, is_longer_in, compact_refusal}

-- the reasons of a mode, whatever the range of the type
abbrev pub mode_reasons : ℕ → Mode → List ℕ → List (Bool × Why)
mode_reasons most mode bytes =
    (announces_over most mode bytes, TooWide)
    ∷ (lacks (bytes_in mode bytes) bytes, Short)
    ∷ (is_longer_in mode bytes, NotShortest)
    ∷ []

-- the number of a mode, or the first reason to refuse it
abbrev pub ReadsMode : ℕ → Mode → List ℕ → Result ℕ Why → Type 0
ReadsMode most mode bytes result = MatchResult result
    (λ number.
    (first_reason (mode_reasons most mode bytes) ≡ None) × (number ≡ number_in mode bytes))
    (λ why. first_reason (mode_reasons most mode bytes) ≡ Some why)

-- the number and how many bytes it has, or the first reason to refuse it
abbrev pub ReadsCompact : ℕ → ℕ → List ℕ → Result (ℕ × ℕ) Why → Type 0
ReadsCompact most limit bytes result = MatchResult result
    (λ read. (compact_refusal most limit bytes ≡ None) × (read.0 ≡ number_in (mode_of bytes) bytes)
    × (read.1 ≡ bytes_in (mode_of bytes) bytes))
    (λ why. compact_refusal most limit bytes ≡ Some why)
