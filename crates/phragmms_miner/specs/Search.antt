-- The best of the targets that may be picked.
use Rattle.std.specs.Prelude.{◌≡◌, ℕ, ◌<◌, ◌≤◌, true, List, length, All}
use Rattle.std.specs.List.{AllPairs}
use Rattle.election_snapshot.specs.Snapshot.{Snapshot, has}
use Rattle.seat_race.specs.Tables.{AreNominators}

-- the lowest of those with the greatest score
pub record IsBestOf (score_of : ℕ → ℕ) (outside : List ℕ) (pick : ℕ) : Type 0 where
  pub is_out : has outside pick ≡ true
  pub greatest : (other : ℕ) → has outside other ≡ true → score_of other ≤ score_of pick
  pub lowest : (other : ℕ) → has outside other ≡ true → other < pick → score_of other < score_of pick

-- rising positions of targets
pub record AreRising (targets : ℕ) (outside : List ℕ) : Type 0 where
  pub rising : AllPairs (λ one other. one < other) outside
  pub in_range : All (λ target. target < targets) outside

-- by voter, and five times by target
pub record AreTables (snapshot : Snapshot) (rates left prescores outside approvals : List ℕ)
    (nominators : List (List ℕ)) : Type 0 where
  pub rated : length rates ≡ length snapshot.targets
  pub voters : length left ≡ length snapshot.voters
  pub targets : length prescores ≡ length snapshot.targets
  pub places : length outside ≡ length snapshot.targets
  pub approved : length approvals ≡ length snapshot.targets
  pub nominated : length nominators ≡ length snapshot.targets
  pub nominators_are : AreNominators snapshot nominators
