-- A genesis that is read from bytes which come by pieces: its tag, how many endowments it has and
-- those of them that were whole are kept, and the reader goes on at the next.
use Rattle.std.specs.Prelude.{ℕ, ◌≤◌, length, Result, Ok, Err, IfSome}
use Rattle.scale_wire.specs.declared.fault.WireFault.{WireFault}
use Rattle.scale_wire.specs.declared.fault.ReadFault.{ReadFault}
use Rattle.scale_wire.specs.Form.{Form}
use Rattle.scale_wire.specs.Parts.{tag_form, length_form}
use Rattle.scale_wire.specs.Reading.{Place, IsRead, IsFault, Reads}
use Rattle.npos_base.specs.declared.limits.TheConstants.{MOST_ENDOWMENTS}
use Rattle.block_wire.specs.declared.limits.TheConstants.{GENESES}
use Rattle.block_wire.specs.declared.begun_genesis.BegunGenesis.{BegunGenesis}
use Rattle.block_wire.specs.declared.begun_genesis.GenesisStep.{GenesisStep}
use Rattle.block_wire.specs.declared.begun_genesis.GenesisStep.TheVariants.{Whole, Stopped}
use Rattle.block_wire.specs.Genesis.{endowment_form, genesis_form}
use Rattle.block_wire.specs.Begun.{behind, HasItems}

-- here stand the head of a genesis, its tag and the count of its endowments, and then these
abbrev pub IsGenesisHead : Place → ℕ → ℕ → Place → Type 0
IsGenesisHead old tag count new =
    (tagged : Place) × IsRead (tag_form GENESES) old tag tagged
    × IsRead (length_form MOST_ENDOWMENTS) tagged count new

-- a head was read, or its bytes are refused
abbrev pub ReadsGenesisHead : Place → Result (ℕ × ℕ) WireFault → Place → Type 0
ReadsGenesisHead old (Ok head) new = IsGenesisHead old head.0 head.1 new
ReadsGenesisHead old (Err fault) new = IsFault genesis_form old fault old

-- the head of a genesis, and as many of its endowments as were whole
abbrev pub IsBegunGenesis : BegunGenesis → Place → Type 0
IsBegunGenesis begun old =
    HasItems (λ start end. IsGenesisHead start begun.tag begun.count end) endowment_form
    begun.count begun.size begun.endowments.items old

-- the genesis was begun, or its bytes are refused
abbrev pub OpensGenesis : Place → Result BegunGenesis ReadFault → Type 0
OpensGenesis old (Ok begun) = IsBegunGenesis begun old
OpensGenesis old (Err fault) = Reads genesis_form old (Err fault) old

-- a value that has this many bytes was read, or the bytes are refused
abbrev pub ReadsAt : {V : Type 0} → Form V → Place → Result (V × ℕ) ReadFault → Type 0
ReadsAt form old (Ok value) =
    IsRead form old value.0 (behind value.1 old) × (value.1 ≤ length old.rest)
ReadsAt form old (Err fault) = Reads form old (Err fault) old

-- What going on comes to: a whole genesis and how many bytes it has; or a refusal or want of
-- memory, and what is then begun.
abbrev pub GenesisSteps : Place → GenesisStep → Type 0
GenesisSteps old (Whole genesis size) = ReadsAt genesis_form old (Ok (genesis, size))
GenesisSteps old (Stopped begun fault) =
    IfSome begun (λ some. IsBegunGenesis some old) × Reads genesis_form old (Err fault) old
