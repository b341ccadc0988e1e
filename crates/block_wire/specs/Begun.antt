-- An Option of a block that is read from bytes which come by pieces: its number, how many calls it
-- has and those of them that were whole are kept, and the reader goes on at the next.
use Rattle.std.specs.Prelude.{◌≡◌, ℕ, ◌+◌, ◌≤◌, List, [], ◌∷◌, ◌++◌, length, drop, Option, Some, None, Result, Ok, Err, IfSome}
use Rattle.std.specs.List.{flat_map}
use Rattle.scale_wire.specs.declared.fault.WireFault.{WireFault}
use Rattle.scale_wire.specs.declared.fault.ReadFault.{ReadFault}
use Rattle.scale_wire.specs.Form.{Form, IsBytes}
use Rattle.scale_wire.specs.Parts.{tag_form, compact_u32, length_form}
use Rattle.scale_wire.specs.Composite.{items, optional}
use Rattle.scale_wire.specs.Reading.{Place, IsRead, IsFault, Reads}
use Rattle.block_wire.specs.declared.limits.TheConstants.{MOST_CALLS}
use Rattle.block_wire.specs.declared.block.Block.{Block}
use Rattle.block_wire.specs.declared.begun.Begun.{Begun}
use Rattle.block_wire.specs.declared.begun.Step.{Step}
use Rattle.block_wire.specs.declared.begun.Step.TheVariants.{Last, Whole, Stopped}
use Rattle.block_wire.specs.Calls.{call_form, block_form}

-- what stands next in a stream: a block, or the None that ends it
abbrev pub next_form : Form (Option Block)
next_form = optional block_form

-- the place behind so many bytes
abbrev pub behind : ℕ → Place → Place
behind size place = record { at = place.at + size; rest = drop size place.rest }

-- here stand the head of a block, with its number and the count of its calls, and then the calls
abbrev pub IsHead : Place → ℕ → ℕ → Place → Type 0
IsHead old number count new =
    (tagged : Place) × (numbered : Place) × IsRead (tag_form 2) old 1 tagged
    × IsRead compact_u32 tagged number numbered × IsRead (length_form MOST_CALLS) numbered count new

-- a head was read, or the None, or their bytes are refused
abbrev pub ReadsHead : Place → Result (Option (ℕ × ℕ)) WireFault → Place → Type 0
ReadsHead old (Ok None) new = IsRead next_form old None new
ReadsHead old (Ok (Some head)) new = IsHead old head.0 head.1 new
ReadsHead old (Err fault) new = IsFault next_form old fault old

-- The first `size` bytes are a head and as many of the `count` items behind it as were whole.
pub record HasItems {A : Type 0} (Head : Place → Place → Type 0) (item : Form A) (count size : ℕ)
    (xs : List A) (old : Place) : Type 0 where
  pub counted : Place
  pub head : Head old counted
  pub whole : IsRead (items item (length xs)) counted xs (behind size old)
  pub few : length xs ≤ count
  pub within : size ≤ length old.rest

-- the head of a block, and as many of its calls as were whole
abbrev pub IsBegun : Begun → Place → Type 0
IsBegun begun old =
    HasItems (λ start end. IsHead start begun.number begun.count end) call_form begun.count
    begun.size begun.calls.items old

-- the bytes of what was begun: of the head, and of the calls that were whole
abbrev pub begun_bytes : Begun → List ℕ
begun_bytes begun =
    1 ∷ (compact_u32.spelling begun.number
    ++ ((length_form MOST_CALLS).spelling begun.count ++ flat_map call_form.spelling begun.calls.items))

-- none where nothing was begun
abbrev pub front_bytes : Option Begun → List ℕ
front_bytes None = []
front_bytes (Some begun) = begun_bytes begun

-- how many they are
abbrev pub begun_size : Option Begun → ℕ
begun_size None = 0
begun_size (Some begun) = begun.size

-- `ys` are `xs` and the items between the two places, wherever the first of them stands
abbrev pub ReadsOn : {A : Type 0} → Form A → List A → Place → List A → Place → Type 0
ReadsOn item xs old ys new = (start : Place) → IsRead (items item (length xs)) start xs old
    → IsRead (items item (length ys)) start ys new

-- the block was begun, or the None stands here, or its bytes are refused
abbrev pub Opens : Place → Result (Option Begun) ReadFault → Type 0
Opens old (Ok None) = IsRead next_form old None (behind 1 old) × (1 ≤ length old.rest)
Opens old (Ok (Some begun)) = IsBegun begun old
Opens old (Err fault) = Reads next_form old (Err fault) old

-- what was begun is kept: only where nothing was is the None here, or a refusal
abbrev pub GoesFurther : Option Begun → Result (Option Begun) ReadFault → Type 0
GoesFurther begun (Ok (Some more)) = begun_size begun ≤ more.size
GoesFurther begun other = begun ≡ None

-- all calls of the block were read
abbrev pub IsWholeBlock : Begun → Place → Type 0
IsWholeBlock begun old =
    IsRead next_form old (Some record { number = begun.number; calls = begun.calls.items })
    (behind begun.size old)
    × (begun.size ≤ length old.rest)

-- More was begun: so many of the bytes behind what was begun before belong to it.
pub record Keeps (begun more : Option Begun) (at taken : ℕ) (bytes : List ℕ) : Type 0 where
  pub whole : front_bytes begun ++ bytes ≡ front_bytes more ++ drop taken bytes
  pub within : taken ≤ length bytes
  pub are_bytes : IsBytes (front_bytes more)
  pub is : IfSome more (λ some. IsBegun some (record { at = at; rest = begun_bytes some ++ drop taken bytes }))

-- What going on with what was begun comes to, if anything was: the None that ends the stream; a whole
-- block; or a refusal or want of memory, and what is then begun.
abbrev pub Steps : Option Begun → ℕ → List ℕ → Step → Type 0
Steps begun at bytes Last =
    (begun ≡ None) × IsRead next_form (record { at = at; rest = bytes }) None (record { at = at + 1; rest = drop 1 bytes })
    × (1 ≤ length bytes)
Steps begun at bytes (Whole more taken) =
    IsRead next_form (record { at = at; rest = front_bytes begun ++ bytes })
    (Some record { number = more.number; calls = more.calls.items })
    (record { at = at + more.size; rest = drop taken bytes })
    × (taken ≤ length bytes)
    × (more.size + length (drop taken bytes) ≡ length (front_bytes begun ++ bytes))
Steps begun at bytes (Stopped more taken fault) =
    Keeps begun more at taken bytes
    × Reads next_form (record { at = at; rest = front_bytes begun ++ bytes }) (Err fault)
    (record { at = at; rest = front_bytes begun ++ bytes })
