-- What a fill keeps while it goes on.
use Rattle.std.specs.Prelude.{◌≡◌, ℕ, ◌-◌, nat_lt, List, [], ◌∷◌, ◌++◌, length, map, filter, reverse}
use Rattle.std.specs.List.{cons_option}
use Rattle.npos_base.specs.declared.figures.Edge.{Edge}
use Rattle.election_snapshot.specs.Snapshot.{Snapshot}
use Rattle.weight_book.specs.Passing.{nominators}
use Rattle.weight_book.specs.Room.{WeightBook, HasRoom}
use Rattle.seat_race.specs.Tables.{says, AreMarks, AreSums}
use Rattle.quota_fill.specs.declared.race.Race.{Race}
use Rattle.quota_fill.specs.Backers.{AreBackers}
use Rattle.quota_fill.specs.Filled.{draw, left_after, next_pick}

-- ## Tables

-- by voter, what it has left, and by target, what its nominators have left
pub record AreTables (snapshot : Snapshot) (left backings : List ℕ) : Type 0 where
  pub left_size : length left ≡ length snapshot.voters
  pub backings_size : length backings ≡ length snapshot.targets
  pub sums : AreSums snapshot left backings

-- the tables after these picks, the latest first
pub record IsAfter (snapshot : Snapshot) (picks : List ℕ) (race : Race) : Type 0 where
  pub left : (voter : ℕ) → says race.left.items voter ≡ left_after snapshot picks voter
  pub tables : AreTables snapshot race.left.items race.backings.items
  pub marks : AreMarks race.is_picked.items picks
  pub marks_size : length race.is_picked.items ≡ length snapshot.targets
  pub backers_are : AreBackers snapshot race.backers

-- ## Draws, in the order in which they are made

-- what a target draws from a voter, as an edge
abbrev pub draw_edge : Snapshot → (ℕ → ℕ) → ℕ → ℕ → Edge
draw_edge snapshot left target voter =
    record { voter = voter; target = target; amount = draw snapshot left target voter }

-- what it draws from these voters, where it is more than nothing
abbrev pub draws_of : Snapshot → (ℕ → ℕ) → ℕ → List ℕ → List Edge
draws_of snapshot left target voters =
    filter (λ edge. nat_lt 0 edge.amount) (map (draw_edge snapshot left target) voters)

-- the target has drawn the price of a seat: the tables are lowered by it, and its draws are noted
pub record IsDrawn (snapshot : Snapshot) (target : ℕ) (left_old left_new backings_new : List ℕ)
    (draws_old draws_new : List Edge) : Type 0 where
  pub left : (voter : ℕ)
      → says left_new voter ≡ says left_old voter - draw snapshot (says left_old) target voter
  pub backings : AreSums snapshot left_new backings_new
  pub draws : draws_new
      ≡ draws_old ++ draws_of snapshot (says left_old) target (nominators snapshot target)

-- the draws of these picks, the latest pick first, from the first one on
abbrev pub draws_after : Snapshot → List ℕ → List Edge
draws_after snapshot [] = []
draws_after snapshot (target ∷ picks) =
    draws_after snapshot picks ++ draws_of snapshot (left_after snapshot picks) target
    (nominators snapshot target)

-- one more pick, if there is one
abbrev pub with_next : Snapshot → List ℕ → List ℕ
with_next snapshot picks = cons_option (next_pick snapshot picks) picks

-- the state of a fill after these picks
pub record IsFilling (snapshot : Snapshot) (picks : List ℕ) (race : Race) (book : WeightBook)
    (draws : List Edge) : Type 0 where
  pub after : IsAfter snapshot picks race
  pub members : book.plain.committee ≡ reverse picks
  pub edges : book.plain.edges ≡ []
  pub draws_are : draws ≡ draws_after snapshot picks
  pub room : HasRoom snapshot book
