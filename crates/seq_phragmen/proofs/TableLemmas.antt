-- A search for the lightest, and floors that no score is below.
use Rattle.std.proofs.Common.{◌≡◌, ℕ, ◌+◌, ◌<◌, ◌≤◌, Bool, true, false, ◌||◌, nat_lt, List, length, get_or, set, Option, Some, None, is_none, inl, inr, refl, ap, sym, arith}
use Rattle.std.proofs.lemmas.List.{get_or-set_same, get_or-set_other, length-set, get_or_past}
use Rattle.std.proofs.lemmas.Bool.{cases_Bool, cases_eq, cases_lt, or_right, lt-ltb, le-ltb, true≢false}
use Rattle.seat_race.specs.Picks.{less}
use Rattle.seat_race.proofs.TableLemmas.{IsBestSoFar, best_next, best_stays}
use Rattle.seq_phragmen.specs.Mined.{greatest_score}
use Rattle.seq_phragmen.specs.Kept.{AreFloors}

module _ (value : ℕ → ℕ) (marks : List Bool) where
  -- the lightest of the targets so far, and its value; where there is none, a number that no score reaches
  abbrev pub IsLightestSoFar : ℕ → Option ℕ → ℕ → Type 0
  IsLightestSoFar count best least = IsBestSoFar less value marks count best least × (is_none best ≡ true → greatest_score < least)

  pub lighter_next : (count : ℕ) (best : Option ℕ) (least : ℕ) → count < length marks → IsLightestSoFar count best least
      → get_or marks count false ≡ false → value count < least → IsLightestSoFar (count + 1) (Some count) (value count)
  lighter_next count best least h so_far f lighter = (
    best_next less value marks count best least h so_far.0 f (or_right (is_none best) (nat_lt (value count) least) (lt-ltb (value count) least lighter)),
    λ e. absurd (true≢false (sym e)),
  )

  -- one that is marked or has no less a value changes nothing
  pub lightest_stays : (count : ℕ) (best : Option ℕ) (least : ℕ) → value count ≤ greatest_score → IsLightestSoFar count best least
      → (get_or marks count false ≡ false → least ≤ value count) → IsLightestSoFar (count + 1) best least
  lightest_stays count best least most so_far no_less = elim (cases_Bool (get_or marks count false)) [
    | inl t ↦ (best_stays less value marks count best least so_far.0 (inr t), so_far.1)
    | inr f ↦ (best_stays less value marks count best least so_far.0 (inl (behind best so_far.1 (no_less f))), so_far.1)
  ] where
    behind : (o : Option ℕ) → (is_none o ≡ true → greatest_score < least) → least ≤ value count → (is_none o || nat_lt (value count) least) ≡ false
    behind None above l = absurd (omega (arith, above refl, most, l))
    behind (Some b) above l = le-ltb (value count) least l

  -- a floor that is a value
  pub floor_set : (floors : List ℕ) (target score : ℕ) → score ≡ value target → AreFloors value marks floors → AreFloors value marks (set floors target score)
  floor_set floors target score is low other h f = elim (cases_eq target other) [
    | inl same ↦ elim (cases_lt other (length floors)) [
      | inl inside ↦ omega (arith, ap (λ n. get_or (set floors n score) other 0) same, get_or-set_same floors other score 0 inside, is, ap value same)
      | inr outside ↦ omega (arith, get_or_past (set floors target score) other 0 (omega (arith, outside, length-set floors target score)))
    ]
    | inr differ ↦ omega (arith, get_or-set_other floors target other score 0 (λ e. differ (sym e)), low other h f)
  ]
