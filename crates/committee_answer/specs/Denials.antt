-- Who is denied a seat, and by which group, after Brill and Peters (PJR+), with stakes.
use Rattle.std.specs.Prelude.{◌≡◌, ℕ, ◌+◌, ◌*◌, ◌/◌, ◌<◌, ◌≤◌, ◌&&◌, IsTrue, List, length, filter, count_by, All}
use Rattle.std.specs.List.{range_with_len}
use Rattle.std.specs.List.Sorted.{IsStrictlyIncreasing}
use Rattle.election_snapshot.specs.Snapshot.{Snapshot, has, nominates, total_stake}
use Rattle.weight_book.specs.Proportional.{group_stake, nominated_by}
use Rattle.weight_book.specs.Answered.{IsDenied}
use Rattle.committee_answer.specs.declared.denied.Denied.{Denied}

-- different voters, all of whom nominate the target
pub record IsGroup (snapshot : Snapshot) (target : ℕ) (group : List ℕ) : Type 0 where
  pub rising : IsStrictlyIncreasing group
  pub voters_in_range : All (λ voter. voter < length snapshot.voters) group
  pub all_nominate : All (λ voter. IsTrue (nominates snapshot voter target)) group

-- how many members a group nominates
abbrev pub represented : Snapshot → List ℕ → List ℕ → ℕ
represented snapshot committee group = count_by (nominated_by snapshot group) committee

-- What is due to a group, its stake times the seats less the total for each member that it nominates, is no more than
-- what is due to the other. It is written without a difference.
abbrev pub IsDueNoMore : Snapshot → List ℕ → List ℕ → List ℕ → Type 0
IsDueNoMore snapshot committee group other =
    snapshot.seats * group_stake snapshot group + represented snapshot committee other * total_stake snapshot
    ≤ snapshot.seats * group_stake snapshot other + represented snapshot committee group * total_stake snapshot

-- to no group that nominates the target more is due
abbrev pub IsGreatest : Snapshot → List ℕ → ℕ → List ℕ → Type 0
IsGreatest snapshot committee target group =
    (other : List ℕ) → IsGroup snapshot target other → IsDueNoMore snapshot committee other group

-- and each group to which as much is due is a part of it
abbrev pub IsLargest : Snapshot → List ℕ → ℕ → List ℕ → Type 0
IsLargest snapshot committee target group =
    (other : List ℕ) → IsGroup snapshot target other → IsDueNoMore snapshot committee group other
    → All (λ voter. IsTrue (has group voter)) other

-- The group to which most is due of those that nominate the target, the largest of several: its stake stands for more
-- seats than it nominates members.
pub record IsCase (snapshot : Snapshot) (committee : List ℕ) (target : ℕ) (group : List ℕ) : Type 0 where
  pub denied : IsDenied snapshot committee target
  pub is_group : IsGroup snapshot target group
  pub greatest : IsGreatest snapshot committee target group
  pub largest : IsLargest snapshot committee target group
  pub too_few : represented snapshot committee group < snapshot.seats * group_stake snapshot group / total_stake snapshot

-- the members that some voter of the group nominates, rising
abbrev pub members_of : Snapshot → List ℕ → List ℕ → List ℕ
members_of snapshot committee group =
    filter (λ target. has committee target && nominated_by snapshot group target)
    (range_with_len 0 (length snapshot.targets))

-- what is told: the lowest target that is denied, and the group, with its members, its stake, and the seats that it stands for
pub record IsFound (snapshot : Snapshot) (committee : List ℕ) (found : Denied) : Type 0 where
  pub lowest : (lower : ℕ) → lower < found.target → IsDenied snapshot committee lower → ⊥
  pub case : IsCase snapshot committee found.target found.group.items
  pub members : found.members.items ≡ members_of snapshot committee found.group.items
  pub stake : found.stake ≡ group_stake snapshot found.group.items
  pub seats : found.seats ≡ snapshot.seats * found.stake / total_stake snapshot
