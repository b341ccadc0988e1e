-- How the input of a pool is spelled: its genesis, and its items.
use Rattle.std.specs.Prelude.{ℕ, List, [], ◌∷◌}
use Rattle.npos_base.specs.declared.account.AccountId.{AccountId}
use Rattle.npos_base.specs.declared.limits.TheConstants.{MOST_ENDOWMENTS}
use Rattle.scale_wire.specs.Form.{Form}
use Rattle.scale_wire.specs.Parts.{account_form, compact_u32, compact_u64}
use Rattle.scale_wire.specs.Composite.{nothing, pair, triple, seen, list, Fields, fields, Choice, choice}
use Rattle.stake_pools.specs.declared.input.PoolGenesis.{PoolGenesis}
use Rattle.stake_pools.specs.declared.input.PoolKind.{PoolKind}
use Rattle.stake_pools.specs.declared.input.PoolKind.TheVariants as asked
use Rattle.stake_pools.specs.declared.input.PoolItem.{PoolItem}

abbrev pub endowments_form : Form (List (AccountId × ℕ))
endowments_form = list (pair account_form compact_u64) MOST_ENDOWMENTS

-- the endowments, the pool's account and the eras of bonding
abbrev pub pool_genesis_form : Form PoolGenesis
pool_genesis_form =
    seen (triple endowments_form account_form compact_u32)
    (λ genesis. (genesis.endowments, genesis.pool, genesis.bonding_eras))

-- The fields of each kind, in the order of the tags from 0.
abbrev pub kinds : List Fields
kinds =
    fields compact_u64
    ∷ fields compact_u64
    ∷ fields nothing
    ∷ fields compact_u64
    ∷ fields nothing
    ∷ fields compact_u64
    ∷ fields nothing
    ∷ []

-- the tag and the field of a kind
abbrev pub kind_choice : PoolKind → Choice kinds
kind_choice (asked.Join value) = record { tag = 0; values = value }
kind_choice (asked.Leave points) = record { tag = 1; values = points }
kind_choice asked.Redeem = record { tag = 2; values = tt }
kind_choice (asked.Reward value) = record { tag = 3; values = value }
kind_choice asked.Claim = record { tag = 4; values = tt }
kind_choice (asked.Slash amount) = record { tag = 5; values = amount }
kind_choice asked.NextEra = record { tag = 6; values = tt }

abbrev pub kind_form : Form PoolKind
kind_form = seen (choice kinds) kind_choice

-- an account, and what it asks
abbrev pub item_form : Form PoolItem
item_form = seen (pair account_form kind_form) (λ item. (item.who, item.kind))
