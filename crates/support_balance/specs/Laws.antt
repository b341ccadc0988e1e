-- What follows of turns.
use Rattle.std.specs.Prelude.{◌≡◌, ℕ, ◌*◌, ◌<◌, ◌≤◌, IsTrue, IsFalse, nat_eq, List, length, sum_by}
use Rattle.std.specs.List.{IsDistinct}
use Rattle.npos_base.specs.declared.figures.Edge.{Edge}
use Rattle.election_snapshot.specs.Snapshot.{Snapshot, stake_of}
use Rattle.weight_book.specs.Weights.{Follows, support, spent}
use Rattle.support_balance.specs.Turns.{given, backs, IsTurn}
use Rattle.support_balance.specs.Rounds.{GiveSame, IsBalanced}

-- two turns at a voter from the same edges give the same
abbrev pub UniqueLaw : Type 0
UniqueLaw = (snapshot : Snapshot) (committee : List ℕ) (voter : ℕ) (old one other : List Edge)
    → IsTurn snapshot committee voter old one → IsTurn snapshot committee voter old other → GiveSame one other

-- what the members get, each squared
abbrev pub squares : List ℕ → List Edge → ℕ
squares committee edges = sum_by (λ member. support edges member * support edges member) committee

-- where the voter had given its whole stake to members that it nominates, its turn does not raise
-- the sum of squares
abbrev pub SquaresLaw : Type 0
SquaresLaw =
    (snapshot : Snapshot) (committee : List ℕ) (voter : ℕ) (old new : List Edge) → IsDistinct nat_eq committee
    → ((target : ℕ) → IsFalse (backs snapshot committee voter target) → given old voter target ≡ 0)
    → ((target : ℕ) → IsTrue (backs snapshot committee voter target)
    → spent old voter ≡ stake_of snapshot voter)
    → IsTurn snapshot committee voter old new → squares committee new ≤ squares committee old

-- each voter that nominates a member gives its whole stake
abbrev pub HaveSpent : Snapshot → List ℕ → List Edge → Type 0
HaveSpent snapshot committee edges = (voter target : ℕ) → voter < length snapshot.voters
    → IsTrue (backs snapshot committee voter target) → spent edges voter ≡ stake_of snapshot voter

-- where they had, a balancing does not raise the sum of squares, however many rounds it makes, and
-- they have again
abbrev pub BalanceLaw : Type 0
BalanceLaw = (snapshot : Snapshot) (committee : List ℕ) (asked made : ℕ) (old new : List Edge)
    → Follows snapshot (record { committee = committee; edges = old }) → HaveSpent snapshot committee old
    → IsBalanced snapshot committee asked made old new
    → (squares committee new ≤ squares committee old) × HaveSpent snapshot committee new
