-- Calls and blocks.
use Rattle.std.specs.Prelude.{List, [], ◌∷◌}
use Rattle.scale_wire.specs.Form.{Form}
use Rattle.scale_wire.specs.Parts.{account_form, compact_u32, compact_u64}
use Rattle.scale_wire.specs.Values.{score_form}
use Rattle.scale_wire.specs.Composite.{nothing, pair, triple, seen, list, byte_list, Fields, fields, Choice, choice}
use Rattle.npos_base.specs.declared.limits.TheConstants.{MOST_SOLUTION_BYTES}
use Rattle.block_wire.specs.declared.limits.TheConstants.{MOST_CALLS, MOST_NAMED, MOST_POINTS}
use Rattle.block_wire.specs.declared.block.Block.{Block}
use Rattle.block_wire.specs.declared.call.Call.{Call}
use Rattle.block_wire.specs.declared.call.CallKind.{CallKind}
use Rattle.block_wire.specs.declared.call.CallKind.TheVariants as calls

-- ## The kinds of calls

-- The fields of each kind, in the order of the tags from 0.
abbrev pub kinds : List Fields
kinds =
    fields (pair account_form compact_u64)
    ∷ fields compact_u64
    ∷ fields compact_u64
    ∷ fields compact_u64
    ∷ fields compact_u64
    ∷ fields nothing
    ∷ fields (list account_form MOST_NAMED)
    ∷ fields compact_u32
    ∷ fields nothing
    ∷ fields account_form
    ∷ fields account_form
    ∷ fields (triple compact_u32 score_form (byte_list MOST_SOLUTION_BYTES))
    ∷ fields (list (pair account_form compact_u32) MOST_POINTS)
    ∷ fields (pair compact_u32 account_form)
    ∷ fields (triple compact_u32 account_form compact_u32)
    ∷ fields compact_u64
    ∷ []

-- the tag and the fields of a kind
abbrev pub kind_choice : CallKind → Choice kinds
kind_choice (calls.Transfer to value) = record { tag = 0; values = (to, value) }
kind_choice (calls.Bond value) = record { tag = 1; values = value }
kind_choice (calls.BondExtra value) = record { tag = 2; values = value }
kind_choice (calls.Unbond value) = record { tag = 3; values = value }
kind_choice (calls.Rebond value) = record { tag = 4; values = value }
kind_choice calls.Withdraw = record { tag = 5; values = tt }
kind_choice (calls.Nominate targets) = record { tag = 6; values = targets }
kind_choice (calls.Validate commission) = record { tag = 7; values = commission }
kind_choice calls.Chill = record { tag = 8; values = tt }
kind_choice (calls.Rebag whom) = record { tag = 9; values = whom }
kind_choice (calls.PutInFront lighter) = record { tag = 10; values = lighter }
kind_choice (calls.Submit round claim bytes) = record { tag = 11; values = (round, claim, bytes) }
kind_choice (calls.Points items) = record { tag = 12; values = items }
kind_choice (calls.Payout era validator) = record { tag = 13; values = (era, validator) }
kind_choice (calls.Offence era validator fraction) =
    record { tag = 14; values = (era, validator, fraction) }
kind_choice (calls.CancelSlash number) = record { tag = 15; values = number }

abbrev pub kind_form : Form CallKind
kind_form = seen (choice kinds) kind_choice

-- ## Calls and blocks

abbrev pub call_form : Form Call
call_form = seen (pair account_form kind_form) (λ call. (call.who, call.kind))

abbrev pub block_form : Form Block
block_form =
    seen (pair compact_u32 (list call_form MOST_CALLS)) (λ block. (block.number, block.calls))
