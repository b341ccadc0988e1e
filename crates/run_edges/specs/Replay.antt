-- What the replay of a byte list is, by rules on spellings and refusals.
-- The rules hold for any machine that starts from a genesis and takes one block after the other.
use Rattle.std.specs.Prelude.{◌≡◌, ◌≢◌, ◌<◌, ℕ, ◌+◌, Bool, true, false, List, [], ◌∷◌, ◌++◌, length, Option, Some, None, Result, Ok, Err}
use Rattle.scale_wire.specs.declared.fault.Why.{Why}
use Rattle.scale_wire.specs.declared.fault.Why.TheVariants.{Trailing}
use Rattle.scale_wire.specs.Form.{Form}
use Rattle.scale_wire.specs.Composite.{optional}
use Rattle.bundle_reports.specs.Texts.{fault_line}
use Rattle.run_edges.specs.Texts.{number_line}

-- How genesis and blocks are spelled, and what each of them does to a state, writes and seats.
pub record Machine (G B S E : Type 0) : Type 1 where
  pub genesis : Form G
  pub block : Form B
  -- the first state, or the line of the genesis's first fault
  pub start : G → Result S (List ℕ)
  pub number : B → ℕ
  pub due : S → ℕ
  pub after : S → B → S
  pub lines : S → B → List ℕ
  -- the elections that a block seats
  pub seats : S → B → List E
  pub ending : S → List ℕ

-- A place between two parts of a stream: how many bytes lie before it, the state there and the
-- bytes behind it.
pub record Spot (S : Type 0) : Type 0 where
  pub at : ℕ
  pub state : S
  pub rest : List ℕ

-- a stream goes on with Options of blocks, and the first None ends it
abbrev pub turn : {G B S E : Type 0} → Machine G B S E → Form (Option B)
turn m = optional m.block

-- the place behind a block
abbrev pub behind : {G B S E : Type 0} → Machine G B S E → Spot S → B → List ℕ → Spot S
behind m p b rest = record {
  at = p.at + length ((turn m).spelling (Some b));
  state = m.after p.state b;
  rest = rest;
}

-- here stands a block in range whose number is due, and then the rest
pub record IsTurn {G B S E : Type 0} (m : Machine G B S E) (p : Spot S) (b : B) (rest : List ℕ) : Type 0 where
  pub in_range : m.block.in_range b
  pub numbered : m.number b ≡ m.due p.state
  pub whole : p.rest ≡ (turn m).spelling (Some b) ++ rest

-- these blocks lead from one place to another, and this is what they write
abbrev pub Passes : {G B S E : Type 0} → Machine G B S E → List B → Spot S → Spot S → List ℕ → Type 0
Passes m [] p q text = (q ≡ p) × (text ≡ [])
Passes m (b ∷ bs) p q text =
    (rest : List ℕ) × IsTurn m p b rest × (more : List ℕ) × Passes m bs (behind m p b rest) q more
    × (text ≡ m.lines p.state b ++ more)

pub record Reaches {G B S E : Type 0} (m : Machine G B S E) (p q : Spot S) (text : List ℕ) : Type 0 where
  pub blocks : List B
  pub passes : Passes m blocks p q text

-- the bytes begin with a genesis in range and without a fault, and p is the place behind it
pub record Starts {G B S E : Type 0} (m : Machine G B S E) (bytes : List ℕ) (p : Spot S) : Type 0 where
  pub genesis : G
  pub in_range : m.genesis.in_range genesis
  pub state_is : m.start genesis ≡ Ok p.state
  pub whole : bytes ≡ m.genesis.spelling genesis ++ p.rest
  pub at_is : p.at ≡ length (m.genesis.spelling genesis)

-- no block whose number is due stands here
abbrev pub IsEnd : {G B S E : Type 0} → Machine G B S E → Spot S → Type 0
IsEnd {G} {B} {S} {E} m q = (b : B) (rest : List ℕ) → IsTurn m q b rest → ⊥

-- A replay ends at q with this line: four ways, of which the last alone is no fault.
pub data Stops {G B S E : Type 0} (m : Machine G B S E) (q : Spot S) (line : List ℕ)
    (faulty : Bool) : Type 0 where
  Refused : (at : ℕ) (why : Why) → (turn m).bad q.rest at why
      → line ≡ fault_line (q.at + at) why → faulty ≡ true → Stops m q line faulty
  OtherNumber : (b : B) (rest : List ℕ) → m.block.in_range b → q.rest ≡ (turn m).spelling (Some b) ++ rest
      → m.number b ≢ m.due q.state
      → line ≡ number_line (q.at + 1) (m.due q.state) (m.number b) → faulty ≡ true → Stops m q line faulty
  Followed : (rest : List ℕ) → q.rest ≡ (turn m).spelling None ++ rest → 0 < length rest
      → line ≡ fault_line (q.at + 1) Trailing → faulty ≡ true → Stops m q line faulty
  Ended : q.rest ≡ (turn m).spelling None
      → line ≡ m.ending q.state → faulty ≡ false → Stops m q line faulty

-- what these blocks seat from a state on, one after the other
abbrev pub all_seated : {G B S E : Type 0} → Machine G B S E → S → List B → List E
all_seated m state [] = []
all_seated m state (b ∷ bs) = m.seats state b ++ all_seated m (m.after state b) bs

pub record Outcome (S E : Type 0) : Type 0 where
  pub text : List ℕ
  pub faulty : Bool
  -- the elections that were seated, in the order of their rounds
  pub seated : List E
  -- the state behind the last block that was taken, where the genesis started
  pub last : Option S

-- What `replay` makes of these bytes.
pub data IsReplay {G B S E : Type 0} (m : Machine G B S E) (bytes : List ℕ) (out : Outcome S E) : Type 0 where
  BadGenesis : (at : ℕ) (why : Why) → m.genesis.bad bytes at why
      → out ≡ record { text = fault_line at why; faulty = true; seated = []; last = None }
      → IsReplay m bytes out
  FaultyGenesis : (g : G) (rest line : List ℕ) → m.genesis.in_range g
      → bytes ≡ m.genesis.spelling g ++ rest → m.start g ≡ Err line
      → out ≡ record { text = line; faulty = true; seated = []; last = None }
      → IsReplay m bytes out
  Replayed : (p q : Spot S) (text line : List ℕ) (faulty : Bool) → Starts m bytes p
      → (reaches : Reaches m p q text) → Stops m q line faulty
      → out ≡ record {
        text = text ++ line;
        faulty = faulty;
        seated = all_seated m p.state reaches.blocks;
        last = Some q.state;
      } → IsReplay m bytes out

-- What the whole blocks of these bytes write: those of the longest front of the bytes that is a
-- genesis without a fault and due blocks behind it. Where no front is one, this is nothing.
pub data IsWhole {G B S E : Type 0} (m : Machine G B S E) (bytes : List ℕ) (text : List ℕ) : Type 0 where
  NoStart : ((p : Spot S) → Starts m bytes p → ⊥) → text ≡ [] → IsWhole m bytes text
  Blocks : (p q : Spot S) → Starts m bytes p → Reaches m p q text → IsEnd m q → IsWhole m bytes text

-- the whole begins with the front
abbrev pub IsFront : List ℕ → List ℕ → Type 0
IsFront front whole = (back : List ℕ) × (whole ≡ front ++ back)
