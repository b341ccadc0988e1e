-- What stands before the groups of a solution.
use Rattle.std.specs.Prelude.{ℕ, ◌+◌, Bool, true, false, List, [], ◌∷◌, drop}
use Rattle.scale_wire.specs.Reading.{Place}
use Rattle.compact_solution.specs.declared.entry.TheConstants.{WIDE_MARK}

-- the mark before those of a wide one, and nothing before those of a plain one
abbrev pub mark_before : Bool → List ℕ
mark_before true = WIDE_MARK ∷ []
mark_before false = []

-- the place where they begin
abbrev pub behind_mark : Bool → Place → Place
behind_mark true place = record { at = place.at + 1; rest = drop 1 place.rest }
behind_mark false place = place
