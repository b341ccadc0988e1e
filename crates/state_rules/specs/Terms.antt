-- What the params say of a state: the era and the place of the block before the next one.
use Rattle.std.specs.Prelude.{◌≡◌, ℕ, ◌+◌, ◌-◌, ◌*◌, ◌^◌, ◌≤◌, Bool, false, ◌&&◌, nat_lt, nat_le, Option, Some, None}
use Rattle.std.specs.Option.{option_map}
use Rattle.block_wire.specs.declared.genesis.Params.{Params}
use Rattle.chain_params.specs.Rules.{era_of, place_of, is_signed}
use Rattle.chain_params.specs.Faults.{terms_fault}
use Rattle.state_rules.specs.declared.state.State.{State}

abbrev pub params_in : Option (Params × ℕ) → Option Params
params_in terms = option_map (λ both. both.0) terms

abbrev pub defer_in : Option (Params × ℕ) → ℕ
defer_in None = 0
defer_in (Some terms) = terms.1

-- the params, and how many eras a slash waits
abbrev pub params_of : State → Option Params
params_of state = params_in state.params

abbrev pub defer_of : State → ℕ
defer_of state = defer_in state.params

-- The next block has a number that a block can have, and the params are without a fault: what is
-- looked at before all else.
pub record HasSoundTerms (state : State) : Type 0 where
  pub counted : 1 ≤ state.due
  pub numbered : state.due ≤ 2 ^ 32
  pub terms : terms_fault (params_of state) (defer_of state) ≡ None

-- the era of the block before the next one; before the first block it is era 0
abbrev pub era_before : State → ℕ
era_before state = era_of (params_of state) (state.due - 1)

-- submissions are taken in the block before the next one, so a round is open
abbrev pub is_open : State → Bool
is_open state = nat_lt 1 state.due && is_signed (params_of state) (state.due - 1)

abbrev pub is_past : Option Params → ℕ → Bool
is_past None number = false
is_past (Some params) number = nat_le (params.offset + params.signed) (place_of params number)

-- the block before the next one is that of a decision, or a later one of its era
abbrev pub is_decided : State → Bool
is_decided state = nat_lt 1 state.due && is_past (params_of state) (state.due - 1)

-- the next number of a count that starts at 1 and rises by no more than 64 a block
abbrev pub is_next_number : ℕ → ℕ → Bool
is_next_number due next = nat_le 1 next && nat_le next (64 * (due - 1) + 1)
