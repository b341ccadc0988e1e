-- What holds of all bytes, whatever the machine.
use Rattle.std.specs.Prelude.{◌≡◌, ℕ, true, List, ◌++◌}
use Rattle.scale_wire.specs.declared.fault.Why.TheVariants.{Short}
use Rattle.scale_wire.specs.Form.{IsBytes}
use Rattle.run_edges.specs.Replay.{Machine, Spot, turn, Starts, Reaches, Outcome, IsReplay, IsWhole, IsFront}

-- each byte list has at most one replay
abbrev pub IsReplayedOnce : {G B S E : Type 0} → Machine G B S E → Type 0
IsReplayedOnce {G} {B} {S} {E} m =
    (bytes : List ℕ) (out other : Outcome S E) → IsReplay m bytes out → IsReplay m bytes other → out ≡ other

-- each list of bytes has a replay
abbrev pub IsAlwaysReplayed : {G B S E : Type 0} → Machine G B S E → Type 0
IsAlwaysReplayed {G} {B} {S} {E} m =
    (bytes : List ℕ) → IsBytes bytes → (out : Outcome S E) × IsReplay m bytes out

-- the whole blocks of a byte list write one text
abbrev pub IsWholeOnce : {G B S E : Type 0} → Machine G B S E → Type 0
IsWholeOnce m = (bytes text other : List ℕ) → IsWhole m bytes text → IsWhole m bytes other → text ≡ other

-- each list of bytes has a text of its whole blocks
abbrev pub IsAlwaysWhole : {G B S E : Type 0} → Machine G B S E → Type 0
IsAlwaysWhole m = (bytes : List ℕ) → IsBytes bytes → (text : List ℕ) × IsWhole m bytes text

-- the replay of a byte list begins with what its whole blocks write
abbrev pub BeginsWithWhole : {G B S E : Type 0} → Machine G B S E → Type 0
BeginsWithWhole {G} {B} {S} {E} m = (bytes text : List ℕ) (out : Outcome S E) → IsWhole m bytes text
    → IsReplay m bytes out → IsFront text out.text

-- More bytes leave what the whole blocks before them write: the text only grows.
abbrev pub WholeGrows : {G B S E : Type 0} → Machine G B S E → Type 0
WholeGrows m = (bytes more text longer : List ℕ) → IsWhole m bytes text → IsWhole m (bytes ++ more) longer
    → IsFront text longer

-- bytes are missing: the input ends within its genesis, or where the next block or the None should
-- stand whole
pub data IsCut {G B S E : Type 0} (m : Machine G B S E) (bytes : List ℕ) : Type 0 where
  CutGenesis : (at : ℕ) → m.genesis.bad bytes at Short → IsCut m bytes
  CutBlock : (p q : Spot S) (text : List ℕ) (at : ℕ) → Starts m bytes p → Reaches m p q text
      → (turn m).bad q.rest at Short → IsCut m bytes

-- A replay that ends with a fault line stands whatever follows the bytes, unless some are missing.
abbrev pub FaultsStand : {G B S E : Type 0} → Machine G B S E → Type 0
FaultsStand {G} {B} {S} {E} m =
    (bytes more : List ℕ) (out : Outcome S E) → IsBytes bytes → (IsCut m bytes → ⊥) → IsReplay m bytes out
    → out.faulty ≡ true → IsReplay m (bytes ++ more) out
