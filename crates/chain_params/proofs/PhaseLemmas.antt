-- The phases of an era, and the era of the next block.
use Rattle.std.proofs.Common.{◌≡◌, ◌⊎◌, inl, inr, ℕ, suc, ◌+◌, ◌-◌, ◌*◌, ◌/◌, ◌%◌, ◌≤◌, ◌<◌, Bool, true, false, not, nat_lt, nat_le, ◌&&◌, Option, Some, None, refl, ◌∙◌, ap, arith, if◌then◌else◌}
use Rattle.std.specs.Option.{option_or}
use Rattle.std.proofs.Math.Nat.{suc-mod, mod-lt, mod-eq_of_lt, zero-div, div-le_self}
use Rattle.std.proofs.lemmas.Nat.{div-mul-add, div-add-mod'}
use Rattle.std.proofs.lemmas.Bool.Decides.{nat_tests}
use Rattle.block_wire.specs.declared.genesis.Params.{Params}
use Rattle.chain_params.specs.Rules.{era_of, place_of}
use Rattle.chain_params.specs.Faults.{params_fault, numbers_fault, threshold_fault, limits_fault, phases_fit, is_within}

first_of_two : {A : Type 0} (a b : Option A) → option_or a b ≡ None → a ≡ None
first_of_two None b none = refl
first_of_two (Some x) b none = none

second_passed : {A : Type 0} (a b : Bool) (x y : A) (rest : Option A) → (if a then Some x else if b then Some y else rest) ≡ None → b ≡ false
second_passed true b x y rest e = absurd (cc)
second_passed false true x y rest e = absurd (cc)
second_passed false false x y rest e = refl

-- the signed blocks and the decision lie within the era
pub phases_sound : (params : Params) → params_fault params ≡ None
    → (1 ≤ params.signed) × (params.offset + params.signed < params.era_blocks)
phases_sound params sound =
    at (nat_le 1 params.offset) (nat_le 1 params.signed) (nat_lt (params.offset + params.signed) params.era_blocks) refl refl
    (second_passed (not (is_within 1 512 params.seats)) (not (phases_fit params)) _ _ _
    (first_of_two (numbers_fault params) (option_or (threshold_fault 0 0 params.thresholds) (limits_fault params)) sound)) where
      at : (a b c : Bool) → nat_le 1 params.signed ≡ b → nat_lt (params.offset + params.signed) params.era_blocks ≡ c
          → not (a && b && c) ≡ false → (1 ≤ params.signed) × (params.offset + params.signed < params.era_blocks)
      at true true true e g f = (grind (arith, nat_tests), grind (arith, nat_tests))
      at true true false e g f = cc
      at true false c e g f = cc
      at false b c e g f = cc

-- the next block stands behind in the same era, or begins the next one
pub next_place : (params : Params) (due : ℕ) → 1 ≤ params.era_blocks → 1 ≤ due
    → ((place_of params (due + 1) ≡ place_of params due + 1) × (era_of (Some params) (due + 1) ≡ era_of (Some params) due))
    ⊎ ((place_of params due + 1 ≡ params.era_blocks) × (era_of (Some params) (due + 1) ≡ era_of (Some params) due + 1))
next_place params due some from = at (nat_lt (suc rest) k) refl where
  k : ℕ
  k = params.era_blocks

  n : ℕ
  n = due - 1

  rest : ℕ
  rest = n % k

  ahead : due + 1 - 1 ≡ suc n
  ahead = omega (arith, from)

  whole : n / k * k + rest ≡ n
  whole = div-add-mod' n k

  below : rest < k
  below = mod-lt n some

  at : (b : Bool) → nat_lt (suc rest) k ≡ b
      → ((place_of params (due + 1) ≡ rest + 1) × (era_of (Some params) (due + 1) ≡ n / k)) ⊎ ((rest + 1 ≡ k) × (era_of (Some params) (due + 1) ≡ n / k + 1))
  at true e =
      let less : suc rest < k = grind (arith, nat_tests) in
      let one : suc rest ≡ rest + 1 = omega arith in
      let sum : suc n ≡ n / k * k + suc rest = omega (arith, whole) in
      inl (
        ap (λ m. m % k) ahead ∙ (suc-mod n k ∙ (mod-eq_of_lt less ∙ one)),
        ap (λ m. m / k) ahead ∙ (ap (λ m. m / k) sum ∙ div-mul-add (n / k) k (suc rest) less),
      )
  at false e =
      let full : suc rest ≡ k = (let less = below in grind (arith, nat_tests)) in
      let sum : suc n ≡ n / k * k + k = omega (arith, whole, full) in
      let more : n / k * k + k ≡ (n / k + 1) * k + 0 = omega arith in
      inr (
        omega (arith, full),
        ap (λ m. m / k) ahead ∙ (ap (λ m. m / k) (sum ∙ more) ∙ div-mul-add (n / k + 1) k 0 some),
      )

-- no era is later than its block
pub era_within : (params : Option Params) (number : ℕ) → era_of params number ≤ number - 1
era_within None number = omega arith
era_within (Some params) number = div-le_self (number - 1) params.era_blocks

pub era_first : (params : Option Params) → era_of params 0 ≡ 0
era_first None = refl
era_first (Some params) = zero-div params.era_blocks

-- the era that follows the last place of another has its first place next
pub first_next : (params : Params) (due : ℕ) → 1 ≤ due → place_of params due + 1 ≡ params.era_blocks
    → era_of (Some params) (due + 1) ≡ era_of (Some params) due + 1 → place_of params (due + 1) ≡ 0
first_next params due from last past =
    let k : ℕ = params.era_blocks in
    let old : (due - 1) / k * k + (due - 1) % k ≡ due - 1 = div-add-mod' (due - 1) k in
    let new : (due + 1 - 1) / k * k + (due + 1 - 1) % k ≡ due + 1 - 1 = div-add-mod' (due + 1 - 1) k in
    let more : ((due - 1) / k + 1) * k ≡ (due - 1) / k * k + k = omega arith in
    let one : (due + 1 - 1) / k * k ≡ (due - 1) / k * k + k = ap (λ q. q * k) past ∙ more in
    omega (arith, old, new, one, last, from)
