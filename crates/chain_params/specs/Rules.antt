-- What the params of the genesis say. A plain genesis has none: the column of constants is what holds then.
use Rattle.std.specs.Prelude.{ℕ, List, [], ◌-◌, ◌/◌, ◌%◌, Option, Some, None, ◌+◌, Bool, false, nat_lt, nat_le, ◌==◌, ◌&&◌, if◌then◌else◌}
use Rattle.npos_base.specs.declared.account.AccountId.{AccountId}
use Rattle.block_wire.specs.declared.genesis.Params.{Params}

-- who gives points and reports offences
abbrev pub root_of : Option Params → AccountId
root_of None = record { hi = 0; lo = 0 }
root_of (Some params) = params.root

-- the number of eras that stake stays bonded after an unbond
abbrev pub bonding_eras_of : Option Params → ℕ
bonding_eras_of None = 28
bonding_eras_of (Some params) = params.bonding_eras

abbrev pub least_bond_of : Option Params → ℕ
least_bond_of None = 1
least_bond_of (Some params) = params.least_bond

-- the era of the block with this number; without params there is but one
abbrev pub era_of : Option Params → ℕ → ℕ
era_of None number = 0
era_of (Some params) number = (number - 1) / params.era_blocks

-- where the block stands in its era, counted from 0
abbrev pub place_of : Params → ℕ → ℕ
place_of params number = (number - 1) % params.era_blocks

-- the era that begins with this block, if one does; the first one is there from the start
abbrev pub begun_era : Option Params → ℕ → Option ℕ
begun_era None number = None
begun_era (Some params) number =
    if (place_of params number == 0) && nat_lt 0 (era_of (Some params) number)
    then Some (era_of (Some params) number) else None

-- a genesis without params seats one
abbrev pub seats_of : Option Params → ℕ
seats_of None = 1
seats_of (Some params) = params.seats

-- the round whose snapshot is taken in this block, if one is; the round of an era is one more than the era
abbrev pub begun_round : Option Params → ℕ → Option ℕ
begun_round None number = None
begun_round (Some params) number =
    if place_of params number == params.offset then Some (era_of (Some params) number + 1) else None

-- the thresholds between the bags
abbrev pub thresholds_in : Option Params → List ℕ
thresholds_in None = []
thresholds_in (Some params) = params.thresholds

-- what is held for a submission, and what the winner of a round gets
abbrev pub deposit_of : Option Params → ℕ
deposit_of None = 0
deposit_of (Some params) = params.deposit

abbrev pub reward_of : Option Params → ℕ
reward_of None = 0
reward_of (Some params) = params.reward

-- what the validators of an era share by their points
abbrev pub era_reward_of : Option Params → ℕ
era_reward_of None = 0
era_reward_of (Some params) = params.era_reward

-- the most bytes of a solution
abbrev pub solution_max_of : Option Params → ℕ
solution_max_of None = 1
solution_max_of (Some params) = params.solution_max

-- how many submissions can wait
abbrev pub places_of : Option Params → ℕ
places_of None = 1
places_of (Some params) = params.queue

-- submissions are taken from the block of the snapshot on, for as many blocks as the params say
abbrev pub is_signed : Option Params → ℕ → Bool
is_signed None number = false
is_signed (Some params) number =
    nat_le params.offset (place_of params number)
    && nat_lt (place_of params number) (params.offset + params.signed)

-- how many blocks lie between the block of a snapshot and the one of its decision, the first included
abbrev pub signed_of : Option Params → ℕ
signed_of None = 0
signed_of (Some params) = params.signed

-- the block behind them is the one of the decision
abbrev pub is_decision : Option Params → ℕ → Bool
is_decision None number = false
is_decision (Some params) number = place_of params number == params.offset + params.signed
