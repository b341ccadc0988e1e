-- How a chain begins.
use Rattle.std.specs.Prelude.{ℕ, List, [], ◌∷◌}
use Rattle.npos_base.specs.declared.account.AccountId.{AccountId}
use Rattle.scale_wire.specs.Form.{Form}
use Rattle.scale_wire.specs.Parts.{account_form, compact_u32, compact_u64}
use Rattle.scale_wire.specs.Composite.{pair, triple, seen, list, Fields, fields, Choice, choice}
use Rattle.npos_base.specs.declared.limits.TheConstants.{MOST_THRESHOLDS, MOST_ENDOWMENTS}
use Rattle.block_wire.specs.declared.genesis.Endowment.{Endowment}
use Rattle.block_wire.specs.declared.genesis.Params.{Params}
use Rattle.block_wire.specs.declared.genesis.Genesis.{Genesis}
use Rattle.block_wire.specs.declared.genesis.Genesis.TheVariants.{Plain, Full, Deferred}

abbrev pub endowment_form : Form Endowment
endowment_form =
    seen (pair account_form compact_u64) (λ endowment. (endowment.who, endowment.value))

-- ## The parameters

-- The fields in order. Up to the thresholds: the root and the seats, the phases of an era, and
-- bonding.
abbrev pub Head : Type 0
Head = (AccountId × ℕ) × (ℕ × ℕ × ℕ) × (ℕ × ℕ)

abbrev pub head_form : Form Head
head_form =
    triple
    (pair account_form compact_u32)
    (triple compact_u32 compact_u32 compact_u32)
    (pair compact_u32 compact_u64)

-- behind the thresholds: submissions, and what is paid
abbrev pub Tail : Type 0
Tail = (ℕ × ℕ × ℕ) × (ℕ × ℕ)

abbrev pub tail_form : Form Tail
tail_form = pair (triple compact_u32 compact_u32 compact_u64) (pair compact_u64 compact_u64)

abbrev pub params_fields : Params → Head × List ℕ × Tail
params_fields params = (
  (
    (params.root, params.seats),
    (params.era_blocks, params.offset, params.signed),
    (params.bonding_eras, params.least_bond),
  ),
  params.thresholds,
  ((params.queue, params.solution_max, params.deposit), (params.reward, params.era_reward)),
)

abbrev pub params_form : Form Params
params_form = seen (triple head_form (list compact_u64 MOST_THRESHOLDS) tail_form) params_fields

-- ## The genesis

abbrev pub endowments_form : Form (List Endowment)
endowments_form = list endowment_form MOST_ENDOWMENTS

abbrev pub full_form : Form (List Endowment × Params)
full_form = pair endowments_form params_form

-- and the number of eras that a slash waits
abbrev pub deferred_form : Form (List Endowment × Params × ℕ)
deferred_form = triple endowments_form params_form compact_u32

-- the fields of each form of a genesis: without elections, with them, and where slashes wait
abbrev pub geneses : List Fields
geneses = fields endowments_form ∷ fields full_form ∷ fields deferred_form ∷ []

abbrev pub genesis_choice : Genesis → Choice geneses
genesis_choice (Plain endowments) = record { tag = 0; values = endowments }
genesis_choice (Full endowments params) = record { tag = 1; values = (endowments, params) }
genesis_choice (Deferred endowments params defer_eras) =
    record { tag = 2; values = (endowments, params, defer_eras) }

abbrev pub genesis_form : Form Genesis
genesis_form = seen (choice geneses) genesis_choice
