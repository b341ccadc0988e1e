-- The faults of params, the first of them in order, and the numbers of all faults of a genesis.
use Rattle.std.specs.Prelude.{◌≡◌, ℕ, ◌+◌, ◌<◌, Bool, List, [], ◌∷◌, Option, Some, None, nat_lt, nat_le, ◌==◌, ◌&&◌, not, if◌then◌else◌}
use Rattle.std.specs.Option.{option_or}
use Rattle.npos_base.specs.declared.limits.TheConstants.{MOST_PAST_ERAS, MOST_QUEUED, MOST_SEATS, MOST_SOLUTION_BYTES}
pub use Rattle.npos_base.specs.Limits.{is_within}
use Rattle.block_wire.specs.declared.genesis.Params.{Params}
use Rattle.chain_params.specs.declared.fault.GenesisFault.{GenesisFault}
use Rattle.chain_params.specs.declared.fault.GenesisFault.TheVariants.{RepeatedAccount, TooMuch, BadSeats, BadPhases, BadBonding, BadMinimum}
use Rattle.chain_params.specs.declared.fault.GenesisFault.TheVariants.{BadThreshold, BadQueue, BadSolutionMax, BadDefer, NoMemory}

-- the first threshold, from this place on, that is not above the one before it; the first is above 0
abbrev pub threshold_fault : ℕ → ℕ → List ℕ → Option GenesisFault
threshold_fault place before [] = None
threshold_fault place before (threshold ∷ more) =
    if nat_lt before threshold then threshold_fault (place + 1) threshold more else Some (BadThreshold place)

abbrev pub phases_fit : Params → Bool
phases_fit params = nat_le 1 params.offset && nat_le 1 params.signed
    && nat_lt (params.offset + params.signed) params.era_blocks

abbrev pub numbers_fault : Params → Option GenesisFault
numbers_fault params =
    if not (is_within 1 MOST_SEATS params.seats) then Some (BadSeats params.seats)
    else if not (phases_fit params) then Some (BadPhases params.era_blocks)
    else if not (is_within 1 MOST_PAST_ERAS params.bonding_eras) then Some (BadBonding params.bonding_eras)
    else if params.least_bond == 0 then Some BadMinimum
    else None

abbrev pub limits_fault : Params → Option GenesisFault
limits_fault params =
    if not (is_within 1 MOST_QUEUED params.queue) then Some (BadQueue params.queue)
    else if not (is_within 1 MOST_SOLUTION_BYTES params.solution_max)
    then Some (BadSolutionMax params.solution_max)
    else None

abbrev pub params_fault : Params → Option GenesisFault
params_fault params =
    option_or (numbers_fault params) (option_or (threshold_fault 0 0 params.thresholds) (limits_fault params))

-- what was unbonded before an offence is still there when its slash is applied
abbrev pub defer_fault : Params → ℕ → Option GenesisFault
defer_fault params defer_eras =
    if nat_lt defer_eras params.bonding_eras then None else Some (BadDefer defer_eras)

-- the first fault of the params and of the number of eras that a slash waits
abbrev pub terms_fault : Option Params → ℕ → Option GenesisFault
terms_fault None defer_eras = None
terms_fault (Some params) defer_eras = option_or (params_fault params) (defer_fault params defer_eras)

-- slashes may wait so many eras; without params there are none
abbrev pub CanWait : Option Params → ℕ → Type 0
CanWait None defer_eras = defer_eras ≡ 0
CanWait (Some params) defer_eras = defer_eras < params.bonding_eras

-- the params are without a fault
abbrev pub AreSound : Option Params → Type 0
AreSound None = Unit {0}
AreSound (Some params) = params_fault params ≡ None

-- the number and the detail of a fault, as they are printed; want of memory has none
abbrev pub fault_numbers : GenesisFault → Option (ℕ × ℕ)
fault_numbers (RepeatedAccount place) = Some (1, place)
fault_numbers (TooMuch place) = Some (2, place)
fault_numbers (BadSeats seats) = Some (3, seats)
fault_numbers (BadPhases era_blocks) = Some (4, era_blocks)
fault_numbers (BadBonding eras) = Some (5, eras)
fault_numbers BadMinimum = Some (6, 0)
fault_numbers (BadThreshold place) = Some (7, place)
fault_numbers (BadQueue queue) = Some (8, queue)
fault_numbers (BadSolutionMax most) = Some (9, most)
fault_numbers (BadDefer eras) = Some (10, eras)
fault_numbers NoMemory = None
