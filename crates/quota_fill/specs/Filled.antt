-- The fill of an election, where nobody hands in a solution. Seat after seat, the target outside
-- whose nominators have the most stake left joins the committee, and draws the price of a seat from
-- them. Lists of picks have the latest first.
use Rattle.std.specs.Prelude.{ℕ, ◌-◌, min, nat_eq, if◌then◌else◌, List, [], ◌∷◌, length, reverse, sum_by, Option}
use Rattle.election_snapshot.specs.Snapshot.{Snapshot, nominates, stake_of, threshold}
use Rattle.weight_book.specs.Weights.{Weights}
use Rattle.weight_book.specs.Passing.{nominators}
use Rattle.seat_race.specs.Giving.{edges_given}
use Rattle.seat_race.specs.Picks.{more, first_best, outside, picks_by}
use Rattle.seat_race.specs.Tables.{nominators_before}

-- ## Draws

-- What a target draws from a voter, where `left` is what each voter has left: all of it, until the
-- target's nominators have given the price of a seat.
abbrev pub draw : Snapshot → (ℕ → ℕ) → ℕ → ℕ → ℕ
draw snapshot left target voter =
    if nominates snapshot voter target
    then min (left voter) (threshold snapshot
    - min (threshold snapshot) (sum_by left (nominators_before snapshot target voter)))
    else 0

-- what a voter has left after these picks
abbrev pub left_after : Snapshot → List ℕ → ℕ → ℕ
left_after snapshot [] voter = stake_of snapshot voter
left_after snapshot (target ∷ picks) voter =
    left_after snapshot picks voter - draw snapshot (λ other. left_after snapshot picks other) target voter

-- what a voter has given to a target in these picks
abbrev pub given : Snapshot → List ℕ → ℕ → ℕ → ℕ
given snapshot [] voter target = 0
given snapshot (pick ∷ picks) voter target =
    if nat_eq pick target
    then draw snapshot (λ other. left_after snapshot picks other) target voter
    else given snapshot picks voter target

-- ## Picks

-- what the target's nominators have left
abbrev pub backing : Snapshot → List ℕ → ℕ → ℕ
backing snapshot picks target = sum_by (λ voter. left_after snapshot picks voter) (nominators snapshot target)

abbrev pub next_pick : Snapshot → List ℕ → Option ℕ
next_pick snapshot picks =
    first_best more (backing snapshot picks) (outside (length snapshot.targets) picks)

-- the first picks, this many
abbrev pub picked : Snapshot → ℕ → List ℕ
picked snapshot count = picks_by (next_pick snapshot) count

-- ## The weights

-- the committee in the order of the picks, one for each seat, with what the voters gave
abbrev pub filled : Snapshot → Weights
filled snapshot = record {
  committee = reverse (picked snapshot snapshot.seats);
  edges = edges_given snapshot (given snapshot (picked snapshot snapshot.seats));
}
