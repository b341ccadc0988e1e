-- Tables by voter and by target, as they are filled from the votes.
use Rattle.std.specs.Prelude.{◌≡◌, ℕ, ◌<◌, Bool, false, not, List, [], length, filter, sum_by, slice_index_or}
use Rattle.std.specs.List.{range_with_len}
use Rattle.election_snapshot.specs.Snapshot.{Snapshot, has, nominates}
use Rattle.weight_book.specs.Passing.{nominators}

-- what a table of numbers says of a voter or of a target
abbrev pub says : List ℕ → ℕ → ℕ
says table number = slice_index_or table number 0

-- the target's nominators before this voter
abbrev pub nominators_before : Snapshot → ℕ → ℕ → List ℕ
nominators_before snapshot target voter =
    filter (λ other. nominates snapshot other target) (range_with_len 0 voter)

-- by target, its nominators
abbrev pub AreNominators : Snapshot → List (List ℕ) → Type 0
AreNominators snapshot lists = (target : ℕ) → target < length snapshot.targets
    → slice_index_or lists target [] ≡ nominators snapshot target

-- by target, the sum of what the other table says of its nominators
abbrev pub AreSums : Snapshot → List ℕ → List ℕ → Type 0
AreSums snapshot values sums = (target : ℕ) → target < length snapshot.targets
    → says sums target ≡ sum_by (says values) (nominators snapshot target)

-- the table tells which numbers stand in the list
abbrev pub AreMarks : List Bool → List ℕ → Type 0
AreMarks marks numbers = (number : ℕ) → slice_index_or marks number false ≡ has numbers number

-- the first numbers, this many, but for those that are marked
abbrev pub unmarked : List Bool → ℕ → List ℕ
unmarked marks count = filter (λ number. not (slice_index_or marks number false)) (range_with_len 0 count)
