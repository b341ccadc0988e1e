-- What a compact integer is spelled as, by its range.
use Rattle.std.specs.Prelude.{◌≡◌, ◌⊎◌, ℕ, zero, suc, ◌+◌, ◌-◌, ◌*◌, ◌^◌, ◌<◌, ◌≤◌, ◌∷◌, refl}
use Rattle.std.proofs.Common.{sym, subst, inl, inr, arith}
use Rattle.std.proofs.Math.Nat.{pow-le-pow_right}
use Rattle.std.proofs.lemmas.Bool.{cases_lt, lt-ltb, le-ltb}
use Rattle.scale_wire.specs.LittleEndian.{little_endian}
use Rattle.scale_wire.specs.Compact.{IsLeast, least_bytes, compact_bytes}

-- ## Spelling, by the number's range

pub compact_one : (number : ℕ) → number < 64 → compact_bytes number ≡ little_endian 1 (4 * number)
unfolding compact_bytes
compact_one number below = rw (lt-ltb number 64 below)

pub compact_two : (number : ℕ) → 64 ≤ number → number < 2 ^ 14 → compact_bytes number ≡ little_endian 2 (4 * number + 1)
unfolding compact_bytes
compact_two number above below = rw (le-ltb number 64 above, lt-ltb number (2 ^ 14) below)

pub compact_four : (number : ℕ) → 2 ^ 14 ≤ number → number < 2 ^ 30
    → compact_bytes number ≡ little_endian 4 (4 * number + 2)
unfolding compact_bytes
compact_four number above below =
    let first : 64 ≤ number = omega arith in
    rw (le-ltb number 64 first, le-ltb number (2 ^ 14) above, lt-ltb number (2 ^ 30) below)

pub compact_big : (number : ℕ) → 2 ^ 30 ≤ number
    → compact_bytes number ≡ (4 * (least_bytes number - 4) + 3) ∷ little_endian (least_bytes number) number
unfolding compact_bytes
compact_big number above =
    let first : 64 ≤ number = omega arith in
    let second : 2 ^ 14 ≤ number = omega arith in
    rw (le-ltb number 64 first, le-ltb number (2 ^ 14) second, le-ltb number (2 ^ 30) above)

-- ## The least number of bytes

over : (more low number : ℕ) → (more ≡ 0) ⊎ (low ≤ number) → 0 < more → low ≤ number
over more low number (inl none) some = absurd (omega arith)
over more low number (inr above) some = above

pub least_is : (more number : ℕ) → more ≤ 4 → number < 256 ^ (more + 4) → (more ≡ 0) ⊎ (256 ^ (more + 3) ≤ number)
    → least_bytes number ≡ more + 4
unfolding least_bytes
least_is zero number few below above = rw (lt-ltb number (256 ^ 4) below)
least_is (suc zero) number few below above =
    let over4 : 256 ^ 4 ≤ number = over 1 (256 ^ 4) number above (omega arith) in
    rw (le-ltb number (256 ^ 4) over4, lt-ltb number (256 ^ 5) below)
least_is (suc (suc zero)) number few below above =
    let over5 : 256 ^ 5 ≤ number = over 2 (256 ^ 5) number above (omega arith) in
    let over4 : 256 ^ 4 ≤ number = omega arith in
    rw (le-ltb number (256 ^ 4) over4, le-ltb number (256 ^ 5) over5, lt-ltb number (256 ^ 6) below)
least_is (suc (suc (suc zero))) number few below above =
    let over6 : 256 ^ 6 ≤ number = over 3 (256 ^ 6) number above (omega arith) in
    let over5 : 256 ^ 5 ≤ number = omega arith in
    let over4 : 256 ^ 4 ≤ number = omega arith in
    rw (le-ltb number (256 ^ 4) over4, le-ltb number (256 ^ 5) over5, le-ltb number (256 ^ 6) over6, lt-ltb number (256 ^ 7) below)
least_is (suc (suc (suc (suc zero)))) number few below above =
    let over7 : 256 ^ 7 ≤ number = over 4 (256 ^ 7) number above (omega arith) in
    let over6 : 256 ^ 6 ≤ number = omega arith in
    let over5 : 256 ^ 5 ≤ number = omega arith in
    let over4 : 256 ^ 4 ≤ number = omega arith in
    rw (le-ltb number (256 ^ 4) over4, le-ltb number (256 ^ 5) over5, le-ltb number (256 ^ 6) over6, le-ltb number (256 ^ 7) over7)
least_is (suc (suc (suc (suc (suc more))))) number few below above = absurd (omega arith)

-- the place of a number between the powers of 256
pub record HasWidth (number : ℕ) : Type 0 where
  pub more : ℕ
  pub few : more ≤ 4
  pub below : number < 256 ^ (more + 4)
  pub above : (more ≡ 0) ⊎ (256 ^ (more + 3) ≤ number)

pub width_of : (number : ℕ) → number < 256 ^ 8 → HasWidth number
width_of number below =
    elim (cases_lt number (256 ^ 4)) [
      | inl in4 ↦ record { more = 0; few = omega arith; below = in4; above = inl refl }
      | inr over4 ↦
          elim (cases_lt number (256 ^ 5)) [
            | inl in5 ↦ record { more = 1; few = omega arith; below = in5; above = inr over4 }
            | inr over5 ↦
                elim (cases_lt number (256 ^ 6)) [
                  | inl in6 ↦ record { more = 2; few = omega arith; below = in6; above = inr over5 }
                  | inr over6 ↦
                      elim (cases_lt number (256 ^ 7)) [
                        | inl in7 ↦ record { more = 3; few = omega arith; below = in7; above = inr over6 }
                        | inr over7 ↦ record { more = 4; few = omega arith; below = below; above = inr over7 }
                      ]
                ]
          ]
    ]

no_less : (more number other : ℕ) → (more ≡ 0) ⊎ (256 ^ (more + 3) ≤ number) → 4 ≤ other → number < 256 ^ other → more + 4 ≤ other
no_less more number other above from_four holds =
    elim (cases_lt other (more + 4)) [
      | inl less ↦
          let some : 0 < more = omega arith in
          let within : other ≤ more + 3 = omega arith in
          let grows : 256 ^ other ≤ 256 ^ (more + 3) = pow-le-pow_right {n = 256} (omega arith) within in
          let reaches : 256 ^ (more + 3) ≤ number = over more (256 ^ (more + 3)) number above some in
          absurd (omega arith)
      | inr reached ↦ reached
    ]

pub least_bytes_is : (number : ℕ) → number < 256 ^ 8 → IsLeast number (least_bytes number)
least_bytes_is number below =
    let width = width_of number below in
    let count_is : least_bytes number ≡ width.more + 4 = least_is width.more number width.few width.below width.above in
    record {
      from_four = omega arith;
      holds = subst (λ (count : ℕ). number < 256 ^ count) (sym count_is) width.below;
      least = λ other from_four holds.
          let less : width.more + 4 ≤ other = no_less width.more number other width.above from_four holds in
          omega arith;
    }
