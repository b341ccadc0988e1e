-- Sequential Phragmén, after Brill et al., in whole numbers. Each member puts a load on its
-- nominators, as evenly as it can; the target that would make the least greatest load joins. Lists
-- of picks have the latest first.
use Rattle.std.specs.Prelude.{ℕ, ◌+◌, ◌-◌, ◌*◌, ◌/◌, ◌^◌, min, nat_eq, if◌then◌else◌, List, [], ◌∷◌, length, reverse, sum_by, Option}
use Rattle.election_snapshot.specs.Snapshot.{Snapshot, nominates, stake_of, total_stake}
use Rattle.weight_book.specs.Weights.{Weights}
use Rattle.weight_book.specs.Passing.{nominators}
use Rattle.seat_race.specs.Giving.{edges_given}
use Rattle.seat_race.specs.Picks.{less, first_best, outside, picks_by}

-- ## Scores and loads

-- no score, and so no load, is greater
abbrev pub greatest_score : ℕ
greatest_score = 2 ^ 63 - 1

-- the load of a seat that nobody carries: in parts of 2^20
abbrev pub seat_load : Snapshot → ℕ
seat_load snapshot = total_stake snapshot * 2 ^ 20

-- the stake of the target's nominators
abbrev pub approval : Snapshot → ℕ → ℕ
approval snapshot target = sum_by (stake_of snapshot) (nominators snapshot target)

-- what the target's nominators carry, each by its stake
abbrev pub burden : Snapshot → (ℕ → ℕ) → ℕ → ℕ
burden snapshot load target =
    sum_by (λ voter. stake_of snapshot voter * load voter) (nominators snapshot target)

-- the load that each of the nominators has, if a seat with this load comes to what they carry
abbrev pub shared_load : ℕ → ℕ → ℕ → ℕ
shared_load seat carried stake =
    if nat_eq stake 0 then greatest_score else min greatest_score ((seat + carried) / stake)

-- the load that the target's nominators would have, if it joined
abbrev pub score : Snapshot → (ℕ → ℕ) → ℕ → ℕ
score snapshot load target =
    shared_load (seat_load snapshot) (burden snapshot load target) (approval snapshot target)

-- a voter's load after these picks: the score of the last one that it nominates, 0 before any
abbrev pub load_after : Snapshot → List ℕ → ℕ → ℕ
load_after snapshot [] voter = 0
load_after snapshot (target ∷ picks) voter = if nominates snapshot voter target
    then score snapshot (λ other. load_after snapshot picks other) target
    else load_after snapshot picks voter

-- ## Picks

abbrev pub next_pick : Snapshot → List ℕ → Option ℕ
next_pick snapshot picks = first_best less (score snapshot (λ voter. load_after snapshot picks voter))
    (outside (length snapshot.targets) picks)

-- the first picks, this many
abbrev pub picked : Snapshot → ℕ → List ℕ
picked snapshot count = picks_by (next_pick snapshot) count

-- ## The weights

-- by how much this pick raises a voter's load, where these picks were before
abbrev pub rise : Snapshot → List ℕ → ℕ → ℕ → ℕ
rise snapshot picks pick voter = load_after snapshot (pick ∷ picks) voter - load_after snapshot picks voter

-- the part of a voter's stake that this rise is of its whole load, rounded down
abbrev pub part : Snapshot → ℕ → ℕ → ℕ → ℕ
part snapshot load voter height = stake_of snapshot voter * height / load

-- a voter's part for a target, where it is among these picks
abbrev pub part_to : Snapshot → ℕ → List ℕ → ℕ → ℕ → ℕ
part_to snapshot load [] voter target = 0
part_to snapshot load (pick ∷ picks) voter target = if nat_eq pick target
    then part snapshot load voter (rise snapshot picks pick voter)
    else part_to snapshot load picks voter target

-- a voter's parts for all of these picks
abbrev pub parts : Snapshot → ℕ → List ℕ → ℕ → ℕ
parts snapshot load [] voter = 0
parts snapshot load (pick ∷ picks) voter =
    part snapshot load voter (rise snapshot picks pick voter) + parts snapshot load picks voter

-- What a voter gives to a target: its part, but what the parts of the others leave to the last pick
-- that it nominates.
abbrev pub given : Snapshot → List ℕ → ℕ → ℕ → ℕ
given snapshot [] voter target = 0
given snapshot (pick ∷ picks) voter target = if nominates snapshot voter pick
    then (if nat_eq pick target
    then stake_of snapshot voter - parts snapshot (load_after snapshot (pick ∷ picks) voter) picks voter
    else part_to snapshot (load_after snapshot (pick ∷ picks) voter) picks voter target)
    else given snapshot picks voter target

-- the committee in the order of the picks, one for each seat, with what the voters give
abbrev pub mined : Snapshot → Weights
mined snapshot = record {
  committee = reverse (picked snapshot snapshot.seats);
  edges = edges_given snapshot (given snapshot (picked snapshot snapshot.seats));
}
