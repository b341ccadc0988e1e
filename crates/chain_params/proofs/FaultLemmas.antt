-- The first fault of two parts is the first part's, or else the second part's.
use Rattle.std.proofs.Common.{◌≡◌, ℕ, ◌≤◌, ◌<◌, Bool, true, false, not, nat_le, nat_lt, ◌==◌, ◌&&◌, Option, Some, None, refl, arith, if◌then◌else◌}
use Rattle.std.specs.Option.{option_or}
use Rattle.std.proofs.lemmas.Bool.Decides.{nat_tests}
use Rattle.block_wire.specs.declared.genesis.Params.{Params}
use Rattle.chain_params.specs.declared.fault.GenesisFault.{GenesisFault}
use Rattle.chain_params.specs.declared.fault.GenesisFault.TheVariants.{BadSeats, BadPhases, BadBonding, BadMinimum, BadQueue, BadSolutionMax, BadDefer}
use Rattle.chain_params.specs.Faults.{AreSound, CanWait, params_fault, numbers_fault, threshold_fault, limits_fault, defer_fault, terms_fault, phases_fit, is_within}

pub fault_first : (a b : Option GenesisFault) (fault : GenesisFault) → a ≡ Some fault → option_or a b ≡ Some fault
fault_first None b fault e = cc
fault_first (Some x) b fault e = e

pub fault_then : (a b : Option GenesisFault) (fault : GenesisFault) → a ≡ None → b ≡ Some fault → option_or a b ≡ Some fault
fault_then None b fault none e = e
fault_then (Some x) b fault none e = cc

pub no_fault : (a b : Option GenesisFault) → a ≡ None → b ≡ None → option_or a b ≡ None
no_fault None b none e = e
no_fault (Some x) b none e = none

-- where two parts have no fault, neither has
pub first_none : (a b : Option GenesisFault) → option_or a b ≡ None → (a ≡ None) × (b ≡ None)
first_none None b none = (refl, none)
first_none (Some x) b none = cc

-- a queue has the places of sound params
pub places_within : (params : Params) → params_fault params ≡ None → (1 ≤ params.queue) × (params.queue ≤ 16)
places_within params sound =
    let limits = (first_none (threshold_fault 0 0 params.thresholds) (limits_fault params)
    (first_none (numbers_fault params) (option_or (threshold_fault 0 0 params.thresholds) (limits_fault params)) sound).1).1 in
    at (nat_le 1 params.queue) (nat_le params.queue 16) (not (is_within 1 2097152 params.solution_max)) refl refl limits where
      at : (a b c : Bool) → nat_le 1 params.queue ≡ a → nat_le params.queue 16 ≡ b
          → (if not (a && b) then Some (BadQueue params.queue) else if c then Some (BadSolutionMax params.solution_max) else None) ≡ None
          → (1 ≤ params.queue) × (params.queue ≤ 16)
      at true true c f g none = (grind (arith, nat_tests), grind (arith, nat_tests))
      at true false c f g none = cc
      at false b c f g none = cc

-- slashes wait for fewer eras than are kept
pub wait_within : (params : Option Params) (defer_eras : ℕ) → AreSound params → CanWait params defer_eras → defer_eras < 84
wait_within None defer_eras sound none = omega (arith, none)
wait_within (Some params) defer_eras sound fewer =
    at (not (is_within 1 512 params.seats)) (not (phases_fit params)) (nat_le 1 params.bonding_eras) (nat_le params.bonding_eras 84) refl
    (first_none (numbers_fault params) (option_or (threshold_fault 0 0 params.thresholds) (limits_fault params)) sound).0 where
      at : (seats phases least most : Bool) → nat_le params.bonding_eras 84 ≡ most
          → (if seats then Some (BadSeats params.seats)
          else if phases then Some (BadPhases params.era_blocks)
          else if not (least && most) then Some (BadBonding params.bonding_eras)
          else if params.least_bond == 0 then Some BadMinimum
          else None) ≡ None
          → defer_eras < 84
      at true phases least most e none = cc
      at false true least most e none = cc
      at false false false most e none = cc
      at false false true true e none = (let within : params.bonding_eras ≤ 84 = grind (arith, nat_tests) in omega (arith, within, fewer))
      at false false true false e none = cc

-- slashes wait as long as terms without a fault say
pub can_wait : (params : Option Params) (defer_eras : ℕ) → (params ≡ None → defer_eras ≡ 0) → terms_fault params defer_eras ≡ None → CanWait params defer_eras
can_wait None defer_eras none sound = none refl
can_wait (Some params) defer_eras none sound =
    at (nat_lt defer_eras params.bonding_eras) refl (first_none (params_fault params) (defer_fault params defer_eras) sound).1 where
      at : (b : Bool) → nat_lt defer_eras params.bonding_eras ≡ b → (if b then None else Some (BadDefer defer_eras)) ≡ None → defer_eras < params.bonding_eras
      at true e none = grind (arith, nat_tests)
      at false e none = cc

-- params without a fault
pub terms_sound : (params : Option Params) (defer_eras : ℕ) → terms_fault params defer_eras ≡ None → AreSound params
terms_sound None defer_eras sound = tt
terms_sound (Some params) defer_eras sound = (first_none (params_fault params) (defer_fault params defer_eras) sound).0
