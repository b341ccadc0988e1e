-- The rank of submissions: the best claim first, and an earlier one before a later one that claims
-- the same.
use Rattle.std.specs.Prelude.{◌≡◌, Bool, false, List, [], ◌∷◌, All, fold, if◌then◌else◌}
use Rattle.npos_base.specs.Score.{is_better}
use Rattle.submission_queue.specs.declared.submission.Submission.{Submission}

-- the one claims a better score than the other
abbrev pub outranks : Submission → Submission → Bool
outranks item other = is_better item.score other.score

-- the item before the first that it outranks, or behind all of them
abbrev pub placed : List Submission → Submission → List Submission
placed [] item = item ∷ []
placed (first ∷ rest) item =
    if outranks item first then item ∷ first ∷ rest else first ∷ placed rest item

-- the submissions by rank, from the order in which they came
abbrev pub ranked : List Submission → List Submission
ranked items = fold placed [] items

-- no later one outranks an earlier one
abbrev pub IsRanked : List Submission → Type 0
IsRanked [] = Unit {0}
IsRanked (first ∷ rest) = All (λ later. outranks later first ≡ false) rest × IsRanked rest
