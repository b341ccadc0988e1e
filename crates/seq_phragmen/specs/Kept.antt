-- What a run keeps while it goes on.
use Rattle.std.specs.Prelude.{◌≡◌, ℕ, ◌-◌, ◌<◌, ◌≤◌, Bool, false, not, ◌&&◌, nat_eq, nat_lt, if◌then◌else◌, List, [], ◌∷◌, ◌++◌, length, map, filter, reverse, sum_by, All, slice_index_or}
use Rattle.std.specs.List.{cons_option}
use Rattle.npos_base.specs.declared.figures.Edge.{Edge}
use Rattle.election_snapshot.specs.Snapshot.{Snapshot, nominates}
use Rattle.weight_book.specs.Passing.{nominators}
use Rattle.weight_book.specs.Room.{WeightBook, HasRoom}
use Rattle.seat_race.specs.Giving.{edge_along}
use Rattle.seat_race.specs.Tables.{says, AreMarks, AreNominators}
use Rattle.seq_phragmen.specs.declared.race.Race.{Race}
use Rattle.seq_phragmen.specs.declared.rise.Rise.{Rise}
use Rattle.seq_phragmen.specs.Mined.{approval, burden, shared_load, score, load_after, part, given, next_pick}

-- ## Tables

-- by target, the stake of its nominators
abbrev pub AreApprovals : Snapshot → List ℕ → Type 0
AreApprovals snapshot approvals = (target : ℕ) → target < length snapshot.targets
    → says approvals target ≡ approval snapshot target

-- by target, what its nominators carry with these loads
abbrev pub AreBurdens : Snapshot → List ℕ → List ℕ → Type 0
AreBurdens snapshot loads burdens = (target : ℕ) → target < length snapshot.targets
    → says burdens target ≡ burden snapshot (says loads) target

-- by the tables, the load that the target's nominators would share, if it joined
abbrev pub score_by : ℕ → List ℕ → List ℕ → ℕ → ℕ
score_by seat burdens approvals target = shared_load seat (says burdens target) (says approvals target)

-- by target, no more than its value, where it is not marked
abbrev pub AreFloors : (ℕ → ℕ) → List Bool → List ℕ → Type 0
AreFloors value marks floors = (target : ℕ) → target < length marks
    → slice_index_or marks target false ≡ false → says floors target ≤ value target

-- the last of these picks that a voter nominates, 0 before any
abbrev pub last_after : Snapshot → List ℕ → ℕ → ℕ
last_after snapshot [] voter = 0
last_after snapshot (target ∷ picks) voter =
    if nominates snapshot voter target then target else last_after snapshot picks voter

-- the tables after these picks, the latest first
pub record IsAfter (snapshot : Snapshot) (picks : List ℕ) (race : Race) : Type 0 where
  pub loads : (voter : ℕ) → says race.loads.items voter ≡ load_after snapshot picks voter
  pub loads_size : length race.loads.items ≡ length snapshot.voters
  pub lasts : (voter : ℕ) → says race.lasts.items voter ≡ last_after snapshot picks voter
  pub lasts_size : length race.lasts.items ≡ length snapshot.voters
  pub approvals : AreApprovals snapshot race.approvals.items
  pub approvals_size : length race.approvals.items ≡ length snapshot.targets
  pub burdens : AreBurdens snapshot race.loads.items race.burdens.items
  pub burdens_size : length race.burdens.items ≡ length snapshot.targets
  pub floors : AreFloors (score snapshot (load_after snapshot picks)) race.is_picked.items race.floors.items
  pub floors_size : length race.floors.items ≡ length snapshot.targets
  pub marks : AreMarks race.is_picked.items picks
  pub marks_size : length race.is_picked.items ≡ length snapshot.targets
  pub nominators_are : AreNominators snapshot race.nominators
  pub nominators_size : length race.nominators ≡ length snapshot.targets

-- ## Rises, in the order in which they are noted

-- how this pick raises a voter's load to this score
abbrev pub rise_of : (ℕ → ℕ) → ℕ → ℕ → ℕ → Rise
rise_of load target score voter = record { voter = voter; target = target; height = score - load voter }

-- the rises of these picks, the latest pick first, from the first one on
abbrev pub rises_after : Snapshot → List ℕ → List Rise
rises_after snapshot [] = []
rises_after snapshot (target ∷ picks) = rises_after snapshot picks ++ map
    (rise_of (load_after snapshot picks) target (score snapshot (load_after snapshot picks) target))
    (nominators snapshot target)

-- one more pick, if there is one
abbrev pub with_next : Snapshot → List ℕ → List ℕ
with_next snapshot picks = cons_option (next_pick snapshot picks) picks

-- the state of a run after these picks
pub record IsRunning (snapshot : Snapshot) (picks : List ℕ) (race : Race) (book : WeightBook)
    (rises : List Rise) : Type 0 where
  pub after : IsAfter snapshot picks race
  pub members : book.plain.committee ≡ reverse picks
  pub edges : book.plain.edges ≡ []
  pub rises_are : rises ≡ rises_after snapshot picks
  pub room : HasRoom snapshot book

-- ## Splits

-- what the parts of a voter's rises come to, but for those of this target
abbrev pub earlier_parts : Snapshot → ℕ → ℕ → List Rise → ℕ → ℕ
earlier_parts snapshot load last rises voter = sum_by (λ rise. part snapshot load voter rise.height)
    (filter (λ rise. nat_eq rise.voter voter && not (nat_eq rise.target last)) rises)

-- What a rise gives of its voter's stake, where these are the loads and the last picks at the end,
-- and this is what the parts of the others leave to the last.
abbrev pub gift : Snapshot → (ℕ → ℕ) → (ℕ → ℕ) → (ℕ → ℕ) → Rise → ℕ
gift snapshot load last rest rise = if nat_eq rise.target (last rise.voter)
    then rest rise.voter
    else part snapshot (load rise.voter) rise.voter rise.height

abbrev pub gift_edge : Snapshot → (ℕ → ℕ) → (ℕ → ℕ) → (ℕ → ℕ) → Rise → Edge
gift_edge snapshot load last rest rise =
    record { voter = rise.voter; target = rise.target; amount = gift snapshot load last rest rise }

-- the edges of these rises, where they are of more than nothing
abbrev pub gifts_of : Snapshot → (ℕ → ℕ) → (ℕ → ℕ) → (ℕ → ℕ) → List Rise → List Edge
gifts_of snapshot load last rest rises =
    filter (λ edge. nat_lt 0 edge.amount) (map (gift_edge snapshot load last rest) rises)

-- what these picks were given, in the order of the rises, where it is more than nothing
abbrev pub gifts_after : Snapshot → List ℕ → List Edge
gifts_after snapshot picks = filter (λ edge. nat_lt 0 edge.amount)
    (map (λ rise. edge_along (given snapshot picks) rise.voter rise.target) (rises_after snapshot picks))

-- What is to be known of rises so that their stakes can be split.
pub record CanSplit (snapshot : Snapshot) (load : ℕ → ℕ) (rises : List Rise) : Type 0 where
  pub in_range : All (λ rise. rise.voter < length snapshot.voters) rises
  pub loaded : All (λ rise. 0 < load rise.voter) rises
  pub within : All (λ rise. rise.height ≤ load rise.voter) rises
