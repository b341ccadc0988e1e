-- What is held of an input that is taken from while its pieces come, and how far it has come.
use Rattle.std.specs.Prelude.{◌≡◌, ℕ, Bool, true, false, List, [], ◌++◌, Option, Some, None, Result, Ok, Err}
use Rattle.npos_base.specs.declared.outside.Asked.{Asked}
use Rattle.npos_base.specs.Outside.{IsAtEnd}
use Rattle.scale_wire.specs.declared.fault.WireFault.{WireFault}
use Rattle.scale_wire.specs.declared.fault.ReadFault.{ReadFault}
use Rattle.scale_wire.specs.declared.fault.ReadFault.TheVariants as faults
use Rattle.scale_wire.specs.Form.{Form, IsBytes}
use Rattle.scale_wire.specs.Reading.{Place, IsRead, IsFault}
use Rattle.run_edges.specs.declared.halt.Halt.{Halt}
use Rattle.run_edges.specs.declared.turn.Stop.{Stop}
use Rattle.run_edges.specs.declared.turn.Stop.TheVariants.{More, Last}
use Rattle.run_edges.specs.Ahead.{first_place, MayFollow, HasSeen, IsSure}
use Rattle.run_edges.specs.Owed.{LeftAfter, Replays, AsksInTime, AsksOn}
use Rattle.run_edges.specs.Turning.{HasTold, StopsSurely}
use Rattle.run_edges.specs.Replay.{Machine, Spot, Starts, Reaches}

-- the bytes that were read and are not taken yet, and whether the input has ended behind them
pub record Held : Type 0 where
  pub place : Place
  pub ended : Bool

-- nothing was read
abbrev pub nothing_held : Held
nothing_held = record { place = first_place []; ended = false }

-- What a read came to: its bytes stand behind those that were held. Where the input has ended there
-- are none.
abbrev pub HoldsMore : Option (List ℕ) → Option (List ℕ) → Held → Held → Type 0
HoldsMore left now old new = (taken : List ℕ) × LeftAfter left now taken
    × (new.place ≡ record { at = old.place.at; rest = old.place.rest ++ taken })
    × (new.ended ≡ true → (taken ≡ []) × IsAtEnd left)

-- a value of the form was taken, or more bytes may come for it, or the bytes are refused
abbrev pub TakesOrWaits : {V : Type 0} → Form V → Held → Result (Option V) ReadFault → Held → Type 0
TakesOrWaits form old (Ok (Some value)) new = IsRead form old.place value new.place
    × (new.ended ≡ old.ended)
TakesOrWaits form old (Ok None) new = (old.ended ≡ false) × (new ≡ old)
TakesOrWaits form old (Err (faults.Wire fault)) new = IsFault form old.place fault old.place
    × IsSure old.ended fault.why × (new ≡ old)
TakesOrWaits form old (Err faults.NoMemory) new = new ≡ old

-- ## Reads in time

-- where no read had failed or found the end before, none was made behind one that did, and none did
-- yet where the input has not ended
pub record IsTimely (first now : Asked) (ended : Bool) : Type 0 where
  pub in_time : AsksInTime first now
  pub goes_on : ended ≡ false → AsksOn first now

-- what was in time so far still is
abbrev pub StaysTimely : {T : Type 0} → Asked → Bool → Asked → Bool → Result T Halt → Type 0
StaysTimely before was now ended (Ok done) =
    (first : Asked) → IsTimely first before was → IsTimely first now ended
StaysTimely before was now ended (Err halt) =
    (first : Asked) → IsTimely first before was → AsksInTime first now

-- ## Genesis and items

-- the genesis of an input was taken, or is refused whatever may follow
abbrev pub Opens : {V : Type 0} → Form V → Option (List ℕ) → Option (List ℕ) → Held
    → Result V WireFault → Type 0
Opens form left now new (Ok genesis) = (taken : List ℕ) × HasSeen left now taken false new.ended
    × IsRead form (first_place taken) genesis new.place
Opens form left now new (Err fault) = (taken : List ℕ) × HasSeen left now taken false new.ended
    × IsBytes taken × IsFault form (first_place taken) fault (first_place taken)
    × IsSure new.ended fault.why

-- items were told up to where bytes are missing that may still come, or up to where the input ends
-- whatever may follow
abbrev pub TellsOn : {G B S E : Type 0} → Machine G B S E → Bool → Spot S → Spot S → List ℕ → List ℕ
    → Stop → Type 0
TellsOn m ended p q old new More = (ended ≡ false) × HasTold m p q old new
TellsOn {G} {B} {S} {E} m ended p q old new (Last faulty) =
    (r : Spot S) × (mid : List ℕ) × (line : List ℕ) × HasTold m p r old mid
    × StopsSurely m ended r line faulty × (new ≡ mid ++ line)

-- the bytes that were read lead to here, and what their items tell is the text
pub record Comes {G B S E : Type 0} (m : Machine G B S E) (left now : Option (List ℕ))
    (ended : Bool) (here : Spot S) (text : List ℕ) : Type 0 where
  pub taken : List ℕ
  pub seen : HasSeen left now taken false ended
  pub start : Spot S
  pub starts : Starts m taken start
  pub reaches : Reaches m start here text

-- the text is that of the whole input, whatever may follow what was read
pub record IsSettled {G B S E : Type 0} (m : Machine G B S E) (left now : Option (List ℕ))
    (ended : Bool) (text : List ℕ) (faulty : Bool) : Type 0 where
  pub taken : List ℕ
  pub seen : HasSeen left now taken false ended
  pub replays : (more : List ℕ) → MayFollow ended more → Replays m (taken ++ more) text faulty

-- whatever led to a place goes on from there until the text is settled
abbrev pub GoesToEnd : {G B S E : Type 0} → Machine G B S E → Option (List ℕ) → Option (List ℕ) → Bool
    → Bool → Spot S → List ℕ → List ℕ → Bool → Type 0
GoesToEnd m mid now was ended here old new faulty =
    (left : Option (List ℕ)) → Comes m left mid was here old → IsSettled m left now ended new faulty

-- what was settled stays so
abbrev pub StaysSettled : {G B S E : Type 0} → Machine G B S E → Option (List ℕ) → Option (List ℕ)
    → Bool → Bool → Type 0
StaysSettled m mid now was ended = (left : Option (List ℕ)) (text : List ℕ) (faulty : Bool)
    → IsSettled m left mid was text faulty → IsSettled m left now ended text faulty
