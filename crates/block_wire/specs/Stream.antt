-- What the reader of a stream answers on the bytes that it was fed so far.
use Rattle.std.specs.Prelude.{◌≡◌, ℕ, ◌+◌, Bool, true, false, Option, Some, None, Result, Ok, Err}
use Rattle.scale_wire.specs.declared.fault.Why.TheVariants.{Short}
use Rattle.scale_wire.specs.declared.fault.ReadFault.{ReadFault}
use Rattle.scale_wire.specs.declared.fault.ReadFault.TheVariants as faults
use Rattle.scale_wire.specs.declared.fault.WireFault.{WireFault}
use Rattle.scale_wire.specs.Form.{Form}
use Rattle.scale_wire.specs.Reading.{Place, IsRead, IsFault}
use Rattle.block_wire.specs.declared.stream.Next.{Next}
use Rattle.block_wire.specs.declared.stream.Next.TheVariants.{More, Block, End}
use Rattle.block_wire.specs.Begun.{next_form}

-- the bytes are cut within a value, more may come, and nothing was consumed
abbrev pub Waits : {V : Type 0} → Form V → Bool → Place → Place → Type 0
Waits form ended old new =
    (ended ≡ false) × ((place : ℕ) × form.bad old.rest place Short) × (new ≡ old)

-- the bytes are refused; that some are missing is said only where the input has ended
abbrev pub Refuses : {V : Type 0} → Form V → Bool → Place → WireFault → Place → Type 0
Refuses form ended old fault new =
    IsFault form old fault new × (fault.why ≡ Short → ended ≡ true)

-- a value of the form was read, or more bytes may come for it, or the bytes are refused
abbrev pub TakesMore : {V : Type 0}
    → Form V → Bool → Place → Result (Option V) ReadFault → Place → Type 0
TakesMore form ended old (Ok (Some value)) new = IsRead form old value new
TakesMore form ended old (Ok None) new = Waits form ended old new
TakesMore form ended old (Err (faults.Wire fault)) new = Refuses form ended old fault new
TakesMore form ended old (Err faults.NoMemory) new = new ≡ old

-- the same of an Option of a block, with the place of the block's number
abbrev pub TakesNext : Bool → Place → Result Next ReadFault → Place → Type 0
TakesNext ended old (Ok More) new = Waits next_form ended old new
TakesNext ended old (Ok (Block at block)) new =
    (at ≡ old.at + 1) × IsRead next_form old (Some block) new
TakesNext ended old (Ok End) new = IsRead next_form old None new
TakesNext ended old (Err (faults.Wire fault)) new = Refuses next_form ended old fault new
TakesNext ended old (Err faults.NoMemory) new = new ≡ old
