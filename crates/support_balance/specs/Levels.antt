-- The level of a turn over the members' bases, which are their supports without the voter's own
-- amounts: all up to a height, and some first ones a unit above it.
use Rattle.std.specs.Prelude.{◌≡◌, ℕ, ◌+◌, ◌*◌, ◌-◌, ◌<◌, min, nat_le, if◌then◌else◌, List, [], ◌∷◌, length, filter, map, sum, slice_index_or}
use Rattle.npos_base.specs.declared.figures.Edge.{Edge}

abbrev pub base_of : List ℕ → Edge → ℕ
base_of supports edge = slice_index_or supports edge.target 0 - edge.amount

abbrev pub bases : List ℕ → List Edge → List ℕ
bases supports row = map (base_of supports) row

-- those that are not above the height
abbrev pub low : ℕ → List ℕ → List ℕ
low height numbers = filter (λ number. nat_le number height) numbers

-- The stake raises the low ones to the height, and so many of them by one unit more.
pub record IsLevel (stake : ℕ) (numbers : List ℕ) (height above : ℕ) : Type 0 where
  pub volume : stake + sum (low height numbers) ≡ height * length (low height numbers) + above
  pub part : above < length (low height numbers)

-- what each one is raised by
abbrev pub filled : ℕ → ℕ → List ℕ → List ℕ
filled height above [] = []
filled height above (number ∷ numbers) =
    if nat_le number height then (height - number + min above 1) ∷ filled height (above - min above 1) numbers
    else (0 ∷ filled height above numbers)
