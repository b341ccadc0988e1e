-- The current era of the era book, while blocks begin eras.
use Rattle.std.proofs.Common.{◌≡◌, ◌⊎◌, inl, inr, ℕ, zero, suc, ◌+◌, ◌-◌, ◌≤◌, Bool, true, false, nat_lt, ◌==◌, ◌&&◌, Option, Some, None, refl, sym, ◌∙◌, ap, subst, arith, if◌then◌else◌}
use Rattle.std.proofs.Math.Nat.{zero-div}
use Rattle.std.proofs.lemmas.Bool.Decides.{nat_tests}
use Rattle.block_wire.specs.declared.genesis.Params.{Params}
use Rattle.era_book.specs.Eras.{Eras}
use Rattle.npos_runtime.specs.Rules.Committee.{Committee}
use Rattle.chain_params.specs.Rules.{era_of, place_of, begun_era}
use Rattle.chain_params.specs.Faults.{params_fault, AreSound}
use Rattle.npos_runtime.specs.Step.{eras_after}
use Rattle.chain_params.proofs.PhaseLemmas.{next_place, phases_sound, first_next}

module _ (eras : Eras) (waiting : Option Committee) where
  abbrev current_after : Bool → Bool → ℕ → ℕ
  current_after first some era = (eras_after eras waiting (if first && some then Some era else None)).current

  stays : (first some : Bool) (era : ℕ) → first ≡ false → current_after first some era ≡ eras.current
  stays true some era e = cc
  stays false some era e = refl

  none_yet : (first some : Bool) (era : ℕ) → some ≡ false → current_after first some era ≡ eras.current
  none_yet true true era e = cc
  none_yet true false era e = refl
  none_yet false some era e = refl

  begins : (first some : Bool) (era : ℕ) → first ≡ true → some ≡ true → current_after first some era ≡ eras.current + 1
  begins true true era e f = refl
  begins true false era e f = cc
  begins false some era e f = cc

  -- behind a block, the current era is that of the next one once that may have begun an era
  begun_next : (params : Params) (due : ℕ) → params_fault params ≡ None → 1 ≤ due → eras.current ≡ era_of (Some params) due
      → (eras_after eras waiting (begun_era (Some params) (due + 1))).current ≡ era_of (Some params) (due + 1)
  begun_next params due sound from is = by (next_place params due (let within = (phases_sound params sound).1 in omega (arith, within)) from) where
    by : ((place_of params (due + 1) ≡ place_of params due + 1) × (era_of (Some params) (due + 1) ≡ era_of (Some params) due))
        ⊎ ((place_of params due + 1 ≡ params.era_blocks) × (era_of (Some params) (due + 1) ≡ era_of (Some params) due + 1))
        → (eras_after eras waiting (begun_era (Some params) (due + 1))).current ≡ era_of (Some params) (due + 1)
    by (inl (on, same)) =
        stays (place_of params (due + 1) == 0) (nat_lt 0 (era_of (Some params) (due + 1))) (era_of (Some params) (due + 1)) (grind (arith, nat_tests)) ∙ (is ∙ sym same)
    by (inr (last, past)) =
        let first : place_of params (due + 1) ≡ 0 = first_next params due from last past in
        begins (place_of params (due + 1) == 0) (nat_lt 0 (era_of (Some params) (due + 1))) (era_of (Some params) (due + 1)) (grind (arith, nat_tests)) (grind (arith, nat_tests))
        ∙ (ap (λ n. n + 1) is ∙ sym past)

  begun_first : (params : Params) → eras.current ≡ 0 → (eras_after eras waiting (begun_era (Some params) 1)).current ≡ era_of (Some params) 1
  begun_first params is =
      none_yet (place_of params 1 == 0) (nat_lt 0 (era_of (Some params) 1)) (era_of (Some params) 1) (ap (λ e. nat_lt 0 e) (zero-div params.era_blocks))
      ∙ (is ∙ sym (zero-div params.era_blocks))

  pub era_begun : (params : Option Params) (due : ℕ) → AreSound params → 1 ≤ due → eras.current ≡ era_of params (due - 1)
      → (eras_after eras waiting (begun_era params due)).current ≡ era_of params due
  era_begun None due sound from is = is
  era_begun (Some params) zero sound from is = absurd (omega (arith, from))
  era_begun (Some params) (suc zero) sound from is = begun_first params (is ∙ zero-div params.era_blocks)
  era_begun (Some params) (suc (suc n)) sound from is =
      let one : suc n + 1 ≡ suc (suc n) = omega arith in
      let back : suc (suc n) - 1 ≡ suc n = omega arith in
      subst (λ due. (eras_after eras waiting (begun_era (Some params) due)).current ≡ era_of (Some params) due) one
      (begun_next params (suc n) sound (omega arith) (is ∙ ap (era_of (Some params)) back))
