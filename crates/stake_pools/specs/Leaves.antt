-- Points on their way out of a pool: leaves, each with the era from which it is paid out.
use Rattle.std.specs.Prelude.{ℕ, Bool, true, false, ◌+◌, ◌-◌, List, [], ◌∷◌, length, slice_get, sum_by, filter, nat_lt, nat_le, ◌==◌, ◌&&◌, not, if◌then◌else◌}
use Rattle.std.specs.List.{list_any}
use Rattle.std.specs.Option.{option_map_or}
use Rattle.stake_pools.specs.declared.leaves.TheConstants.{MOST_LEAVES}
use Rattle.stake_pools.specs.declared.leaves.Leave.{Leave}

-- the points of the leaves together
abbrev pub leaving : List Leave → ℕ
leaving leaves = sum_by (λ leave. leave.points) leaves

abbrev pub is_empty : List Leave → Bool
is_empty [] = true
is_empty (leave ∷ later) = false

-- the points join the last leave where that has the same release; else they are a new leave, put last
abbrev pub with_leave : ℕ → ℕ → List Leave → List Leave
with_leave points release [] = record { points = points; release = release } ∷ []
with_leave points release (leave ∷ later) =
    if is_empty later && (leave.release == release)
    then record leave { points = leave.points + points } ∷ []
    else leave ∷ with_leave points release later

-- whether the last leave has this release
abbrev pub joins_last : ℕ → List Leave → Bool
joins_last release leaves =
    option_map_or (λ leave. leave.release == release) (slice_get leaves (length leaves - 1)) false

-- 32 leaves stand, and the last has another release
abbrev pub is_full_for : ℕ → List Leave → Bool
is_full_for release leaves = nat_le MOST_LEAVES (length leaves) && not (joins_last release leaves)

-- some leave is paid out in this era
abbrev pub has_due : ℕ → List Leave → Bool
has_due era leaves = list_any (λ leave. nat_le leave.release era) leaves

-- the leaves that are paid out in this era, and those that are not yet
abbrev pub due_leaves : ℕ → List Leave → List Leave
due_leaves era leaves = filter (λ leave. nat_le leave.release era) leaves

abbrev pub later_leaves : ℕ → List Leave → List Leave
later_leaves era leaves = filter (λ leave. nat_lt era leave.release) leaves
