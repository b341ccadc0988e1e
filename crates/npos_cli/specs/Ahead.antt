-- What was read so far of an input that begins with a genesis, while more of it may come.
use Rattle.std.specs.Prelude.{◌≡◌, ⊤, ℕ, ◌≤◌, Bool, false, List, ◌++◌, length, Option, Result, Ok, Err}
use Rattle.scale_wire.specs.declared.fault.WireFault.{WireFault}
use Rattle.scale_wire.specs.declared.fault.Why.TheVariants.{Short}
use Rattle.scale_wire.specs.Form.{IsBytes}
use Rattle.scale_wire.specs.Reading.{Place, IsRead, IsFault}
use Rattle.block_wire.specs.declared.genesis.Genesis.{Genesis}
use Rattle.block_wire.specs.Genesis.{genesis_form}
use Rattle.run_edges.specs.declared.halt.Halt.{Halt}
use Rattle.run_edges.specs.declared.halt.Halt.TheVariants as halts
use Rattle.run_edges.specs.Owed.{LeftAfter}
use Rattle.run_edges.specs.Ahead.{IsSure, HasSeen, first_place}

-- a genesis is cut here: bytes of it are missing
abbrev pub CutsGenesis : List ℕ → Type 0
CutsGenesis bytes = (at : ℕ) × genesis_form.bad bytes at Short

-- without the last piece, bytes of the genesis are missing
abbrev pub AwaitsGenesis : List ℕ → Type 0
AwaitsGenesis taken = (earlier : List ℕ) × (last : List ℕ) × (taken ≡ earlier ++ last) × (length last ≤ 65536)
    × CutsGenesis earlier

-- without what the last read gave, bytes of the genesis are missing
pub record AwaitsMore (left now : Option (List ℕ)) (gave : ℕ) : Type 0 where
  pub earlier : List ℕ
  pub last : List ℕ
  pub taken : LeftAfter left now (earlier ++ last)
  pub last_read : length last ≤ gave
  pub one_piece : length last ≤ 65536
  pub cut : CutsGenesis earlier

-- The genesis of an input was read, or is refused whatever may follow; or a read failed where it is
-- cut, or memory ran out.
abbrev pub BeginsBy : Option (List ℕ) → Option (List ℕ) → List ℕ → Place
    → Result (Result Genesis WireFault) Halt → Type 0
BeginsBy left now taken place (Ok (Ok genesis)) = IsRead genesis_form (first_place taken) genesis place
BeginsBy left now taken place (Ok (Err fault)) =
    (ended : Bool) × HasSeen left now taken false ended × IsBytes taken
    × IsFault genesis_form (first_place taken) fault (first_place taken)
    × IsSure ended fault.why
BeginsBy left now taken place (Err halts.ReadFault) = CutsGenesis taken
BeginsBy left now taken place (Err halts.NoMemory) = ⊤
BeginsBy left now taken place (Err other) = ⊥

abbrev pub Begins : Option (List ℕ) → Option (List ℕ) → Place → Result (Result Genesis WireFault) Halt
    → Type 0
Begins left now place result =
    (taken : List ℕ) × LeftAfter left now taken × AwaitsGenesis taken × BeginsBy left now taken place result
