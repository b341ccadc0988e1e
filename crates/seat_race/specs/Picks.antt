-- Picks, one after the other: each is the first best of the targets that are not picked. Lists of
-- picks have the latest first.
use Rattle.std.specs.Prelude.{ℕ, zero, suc, ◌<◌, Bool, IsTrue, IsFalse, not, nat_lt, if◌then◌else◌, List, [], filter, fold, Option, Some, None}
use Rattle.std.specs.List.{range_with_len, cons_option}
use Rattle.election_snapshot.specs.Snapshot.{has}

-- ## The first best

-- orders: whether the first value is better than the second
abbrev pub more : ℕ → ℕ → Bool
more a b = nat_lt b a

abbrev pub less : ℕ → ℕ → Bool
less a b = nat_lt a b

-- the best so far or the next number: a later one has to have a better value
abbrev pub better_of : (ℕ → ℕ → Bool) → (ℕ → ℕ) → Option ℕ → ℕ → Option ℕ
better_of better value None number = Some number
better_of better value (Some best) number =
    if better (value number) (value best) then Some number else Some best

-- the first number with the best value
abbrev pub first_best : (ℕ → ℕ → Bool) → (ℕ → ℕ) → List ℕ → Option ℕ
first_best better value numbers = fold (better_of better value) None numbers

-- ## Picks

-- of so many targets those that are not picked, rising
abbrev pub outside : ℕ → List ℕ → List ℕ
outside targets picks = filter (λ target. not (has picks target)) (range_with_len 0 targets)

-- the first picks, this many, where `next` gives the pick that follows others
abbrev pub picks_by : (List ℕ → Option ℕ) → ℕ → List ℕ
picks_by next zero = []
picks_by next (suc count) = cons_option (next (picks_by next count)) (picks_by next count)

-- of so many targets it is outside, none outside has a better value, and each lower one outside has
-- a worse one
pub record IsPick (targets : ℕ) (better : ℕ → ℕ → Bool) (value : ℕ → ℕ) (picks : List ℕ) (target : ℕ)
    : Type 0 where
  pub in_range : target < targets
  pub is_outside : IsFalse (has picks target)
  pub best : (other : ℕ) → other < targets → IsFalse (has picks other)
      → IsFalse (better (value other) (value target))
  pub lowest : (other : ℕ) → other < target → IsFalse (has picks other)
      → IsTrue (better (value target) (value other))
