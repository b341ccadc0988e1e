-- Answered, after Brill and Peters (PJR+), with stakes: a group that holds as much stake as some seats stand for is
-- represented by that many members, or has nobody left to ask for. Its voters need to agree on one target outside alone.
use Rattle.std.specs.Prelude.{◌≡◌, ℕ, ◌*◌, ◌<◌, ◌≤◌, IsTrue, IsFalse, List, length, count_by, All}
use Rattle.std.specs.List.Sorted.{IsStrictlyIncreasing}
use Rattle.election_snapshot.specs.Snapshot.{Snapshot, IsWellFormed, has, nominates, total_stake, threshold}
use Rattle.weight_book.specs.Weights.{Weights, IsFeasible}
use Rattle.weight_book.specs.Passing.{Passes, prescore}
use Rattle.weight_book.specs.Proportional.{group_stake, nominated_by, IsProportional}

-- different voters, all of whom nominate the target, hold at least the stake that `r` seats stand for
pub record IsClaim (snapshot : Snapshot) (target : ℕ) (group : List ℕ) (r : ℕ) : Type 0 where
  pub rising : IsStrictlyIncreasing group
  pub voters_in_range : All (λ voter. voter < length snapshot.voters) group
  pub all_nominate : All (λ voter. IsTrue (nominates snapshot voter target)) group
  pub enough_stake : r * total_stake snapshot ≤ snapshot.seats * group_stake snapshot group

-- A target outside is denied where some group holds the stake of `r` seats, all of it nominate that target, and it
-- nominates fewer than `r` members.
pub record IsDenied (snapshot : Snapshot) (committee : List ℕ) (target : ℕ) : Type 0 where
  pub in_range : target < length snapshot.targets
  pub outside : IsFalse (has committee target)
  pub group : List ℕ
  pub r : ℕ
  pub claim : IsClaim snapshot target group r
  pub few : count_by (nominated_by snapshot group) committee < r

-- nobody is denied
abbrev pub IsAnswered : Snapshot → List ℕ → Type 0
IsAnswered snapshot committee = (target : ℕ) → IsDenied snapshot committee target → ⊥

-- an answered committee is proportional: a group that agrees on `r` targets agrees on one of them that is outside
abbrev pub AnsweredLaw : Type 0
AnsweredLaw = (snapshot : Snapshot) (weights : Weights) → IsWellFormed snapshot
    → IsAnswered snapshot weights.committee → IsProportional snapshot weights

-- some feasible weights of the committee leave the target's nominators less than the price of a seat
pub record IsWitnessed (snapshot : Snapshot) (committee : List ℕ) (target : ℕ) : Type 0 where
  pub weights : Weights
  pub of_committee : weights.committee ≡ committee
  pub feasible : IsFeasible snapshot weights
  pub below : prescore (threshold snapshot) snapshot weights.edges target < threshold snapshot

-- whoever made the weights, and be they others for each target: where each target outside has a witness, nobody is denied
abbrev pub WitnessLaw : Type 0
WitnessLaw = (snapshot : Snapshot) (committee : List ℕ) → IsWellFormed snapshot
    → ((target : ℕ) → target < length snapshot.targets → IsFalse (has committee target) → IsWitnessed snapshot committee target)
    → IsAnswered snapshot committee

-- weights that pass are a witness for each target outside
abbrev pub PassingLaw : Type 0
PassingLaw = (snapshot : Snapshot) (weights : Weights) → IsWellFormed snapshot → Passes snapshot weights
    → IsAnswered snapshot weights.committee
