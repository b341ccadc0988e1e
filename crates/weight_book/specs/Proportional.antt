-- Proportional justified representation: a group that holds as much stake as some seats stand for,
-- and agrees on that many targets, is represented by that many members.
use Rattle.std.specs.Prelude.{◌≡◌, ℕ, ◌*◌, ◌<◌, ◌≤◌, Bool, IsTrue, nat_eq, List, length, sum_by, count_by, All}
use Rattle.std.specs.List.{list_any, IsDistinct}
use Rattle.std.specs.List.Sorted.{IsStrictlyIncreasing}
use Rattle.election_snapshot.specs.Snapshot.{Snapshot, IsWellFormed, nominates, stake_of, total_stake}
use Rattle.weight_book.specs.Weights.{Weights}
use Rattle.weight_book.specs.Passing.{Passes}

abbrev pub group_stake : Snapshot → List ℕ → ℕ
group_stake snapshot group = sum_by (stake_of snapshot) group

-- different voters, each of whom nominates the same `r` targets, hold at least the stake that `r`
-- seats stand for
pub record IsCohesive (snapshot : Snapshot) (group : List ℕ) (r : ℕ) : Type 0 where
  pub rising : IsStrictlyIncreasing group
  pub voters_in_range : All (λ voter. voter < length snapshot.voters) group
  pub common : List ℕ
  pub common_count : length common ≡ r
  pub common_distinct : IsDistinct nat_eq common
  pub common_in_range : All (λ target. target < length snapshot.targets) common
  pub all_nominate : All (λ voter. All (λ target. IsTrue (nominates snapshot voter target)) common) group
  pub enough_stake : r * total_stake snapshot ≤ snapshot.seats * group_stake snapshot group

-- some voter of the group nominates the target
abbrev pub nominated_by : Snapshot → List ℕ → ℕ → Bool
nominated_by snapshot group target = list_any (λ voter. nominates snapshot voter target) group

abbrev pub IsProportional : Snapshot → Weights → Type 0
IsProportional snapshot weights = (group : List ℕ) (r : ℕ) → 1 ≤ r → r ≤ snapshot.seats
    → IsCohesive snapshot group r → r ≤ count_by (nominated_by snapshot group) weights.committee

-- whoever made the weights: where they pass, each group is represented
abbrev pub AveragingLaw : Type 0
AveragingLaw = (snapshot : Snapshot) (weights : Weights)
    → IsWellFormed snapshot → Passes snapshot weights → IsProportional snapshot weights
