-- The score of a target, after Cevallos and Stewart, in whole numbers: the greatest price of a seat
-- that its nominators could still pay with what they would have left at that price.
use Rattle.std.specs.Prelude.{ℕ, zero, suc, ◌<◌, ◌≤◌, IsFalse, nat_le, if◌then◌else◌, List, length}
use Rattle.npos_base.specs.declared.figures.Edge.{Edge}
use Rattle.election_snapshot.specs.Snapshot.{Snapshot, has, total_stake}
use Rattle.weight_book.specs.Passing.{prescore}

-- the greatest number up to the most that is not above its value
abbrev pub greatest : (ℕ → ℕ) → ℕ → ℕ
greatest value zero = 0
greatest value (suc number) = if nat_le (suc number) (value (suc number)) then suc number
    else greatest value number

abbrev pub score : Snapshot → List Edge → ℕ → ℕ
score snapshot edges target = greatest (λ price. prescore price snapshot edges target) (total_stake snapshot)

-- the lowest of the targets outside that have the greatest score
pub record IsBest (snapshot : Snapshot) (committee : List ℕ) (edges : List Edge) (pick : ℕ) : Type 0 where
  pub in_range : pick < length snapshot.targets
  pub outside : IsFalse (has committee pick)
  pub greatest : (other : ℕ) → other < length snapshot.targets → IsFalse (has committee other)
      → score snapshot edges other ≤ score snapshot edges pick
  pub lowest : (other : ℕ) → other < pick → IsFalse (has committee other)
      → score snapshot edges other < score snapshot edges pick
