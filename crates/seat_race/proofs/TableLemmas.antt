-- Tables by target, changed at each of a voter's votes.
use Rattle.std.proofs.Common.{◌≡◌, ℕ, ◌+◌, ◌<◌, ◌⊎◌, min, Bool, true, false, not, cond, ◌||◌, nat_eq, List, [], ◌∷◌, length, take}
use Rattle.std.proofs.Common.{get_or, set, filter, Option, Some, None, IfSome, is_none, inl, inr, refl, ap, sym, subst, ◌∙◌, arith}
use Rattle.std.specs.List.{IsDistinct, range_with_len, fold}
use Rattle.std.proofs.lemmas.List.{length-take, get_or-take, get_or_default, get_or-set_same, get_or-set_other}
use Rattle.std.proofs.lemmas.List.Elements.{filter-append}
use Rattle.std.proofs.lemmas.List.Folds.{list_any_more, list_any_none}
use Rattle.std.proofs.lemmas.List.Sums.{fold-append}
use Rattle.std.proofs.lemmas.Bool.{cases_Bool, cases_eq, cond-true, cond-false, eq-eqb, ne_eqb, or_right, true≢false}
use Rattle.std.proofs.lemmas.Bool.Decides.{Decides-eqb}
use Rattle.std.proofs.lemmas.Map.Made.{AllPairs-from_IsDistinct}
use Rattle.election_snapshot.specs.Snapshot.{has}
use Rattle.weight_book.proofs.StakeLemmas.{range_more}
use Rattle.seat_race.specs.Picks.{better_of, first_best, outside}
use Rattle.seat_race.specs.Tables.{unmarked, AreMarks}

or_false : (b : Bool) → (b || false) ≡ b
or_false true = refl
or_false false = refl

-- the table is changed at these numbers
abbrev pub AreChanged : {X : Type 0} → (X → X) → X → List ℕ → List X → List X → Type 0
AreChanged change none numbers old now = ((target : ℕ) → target < length old
    → get_or now target none ≡ cond (has numbers target) (change (get_or old target none)) (get_or old target none))
    × (length now ≡ length old)

module _ (votes : List ℕ) (distinct : IsDistinct nat_eq votes) (i d : ℕ) (h : i < length votes) where
  pub has_more : (target : ℕ) → has (take (i + 1) votes) target ≡ (has (take i votes) target || nat_eq (get_or votes i d) target)
  has_more target = list_any_more (λ other. nat_eq other target) votes i d h

  pub fresh : has (take i votes) (get_or votes i d) ≡ false
  fresh = list_any_none (λ other. nat_eq other (get_or votes i d)) (take i votes) (λ k e l.
      let (below, among) = in_front k (length-take i votes) l in
      rw (get_or-take i votes k e below) (ne_eqb (get_or votes k e) (get_or votes i d)
      (λ same. AllPairs-from_IsDistinct Decides-eqb votes distinct k i d below h (get_or_default votes k d e among
      ∙ same))))
    where
      in_front : (k : ℕ) → length (take i votes) ≡ min i (length votes) → k < length (take i votes) → (k < i) × (k < length votes)
      in_front k e l = (omega (arith, e, l), omega (arith, e, l))

  pub now_there : (target : ℕ) → get_or votes i d ≡ target → has (take (i + 1) votes) target ≡ true
  now_there target same = has_more target ∙ or_right (has (take i votes) target) (nat_eq (get_or votes i d) target) (eq-eqb (get_or votes i d) target same)

  pub still_there : (target : ℕ) → (get_or votes i d ≡ target → ⊥) → has (take (i + 1) votes) target ≡ has (take i votes) target
  still_there target differ = has_more target ∙ ap (λ b. has (take i votes) target || b) (ne_eqb (get_or votes i d) target differ) ∙ or_false (has (take i votes) target)

  module _ {X : Type 0} (change : X → X) (none : X) (old now : List X) (so_far : AreChanged change none (take i votes) old now) (in_range : get_or votes i d < length old) where
    pub not_yet : get_or now (get_or votes i d) none ≡ get_or old (get_or votes i d) none
    not_yet = so_far.0 (get_or votes i d) in_range
        ∙ cond-false (has (take i votes) (get_or votes i d)) (change (get_or old (get_or votes i d) none)) (get_or old (get_or votes i d) none) fresh

    pub changed : (target : ℕ) → target < length old → get_or (set now (get_or votes i d) (change (get_or now (get_or votes i d) none))) target none
        ≡ cond (has (take (i + 1) votes) target) (change (get_or old target none)) (get_or old target none)
    changed target l = at (cases_eq (get_or votes i d) target) where
      at : (get_or votes i d ≡ target) ⊎ (get_or votes i d ≡ target → ⊥) → get_or (set now (get_or votes i d) (change (get_or now (get_or votes i d) none))) target none
          ≡ cond (has (take (i + 1) votes) target) (change (get_or old target none)) (get_or old target none)
      at (inl same) =
          let before : get_or now target none ≡ get_or old target none = subst (λ n. get_or now n none ≡ get_or old n none) same not_yet in
          ap (λ n. get_or (set now n (change (get_or now n none))) target none) same
          ∙ get_or-set_same now target (change (get_or now target none)) none (omega (arith, l, so_far.1))
          ∙ ap change before
          ∙ sym (cond-true (has (take (i + 1) votes) target) (change (get_or old target none)) (get_or old target none) (now_there target same))
      at (inr differ) =
          get_or-set_other now (get_or votes i d) target (change (get_or now (get_or votes i d) none)) none (λ e. differ (sym e))
          ∙ so_far.0 target l
          ∙ ap (λ b. cond b (change (get_or old target none)) (get_or old target none)) (sym (still_there target differ))

-- ---- the first best of those that are not marked
module _ (better : ℕ → ℕ → Bool) (value : ℕ → ℕ) (marks : List Bool) where
  abbrev pub best_of : ℕ → Option ℕ
  best_of count = first_best better value (unmarked marks count)

  one_more : (count : ℕ) → best_of (count + 1) ≡ fold (better_of better value) (best_of count) (cond (not (get_or marks count false)) (count ∷ []) [])
  one_more count = ap (λ ns. first_best better value (filter (λ n. not (get_or marks n false)) ns)) (range_more count)
      ∙ ap (first_best better value) (filter-append (λ n. not (get_or marks n false)) (range_with_len 0 count) (count ∷ []))
      ∙ fold-append (better_of better value) None (filter (λ n. not (get_or marks n false)) (range_with_len 0 count)) (filter (λ n. not (get_or marks n false)) (count ∷ []))

  best_taken : (count : ℕ) → get_or marks count false ≡ false → better_of better value (best_of count) count ≡ best_of (count + 1)
  best_taken count f = sym (one_more count ∙ ap (λ b. fold (better_of better value) (best_of count) (cond (not b) (count ∷ []) [])) f)

  best_kept : (count : ℕ) → get_or marks count false ≡ true → best_of count ≡ best_of (count + 1)
  best_kept count t = sym (one_more count ∙ ap (λ b. fold (better_of better value) (best_of count) (cond (not b) (count ∷ []) [])) t)

  -- the best of the targets so far, and its value
  abbrev pub IsBestSoFar : ℕ → Option ℕ → ℕ → Type 0
  IsBestSoFar count best most = (best ≡ best_of count)
      × IfSome best (λ target. (target < length marks) × (most ≡ value target))

  pub best_next : (count : ℕ) (best : Option ℕ) (most : ℕ) → count < length marks → IsBestSoFar count best most → get_or marks count false ≡ false
      → (is_none best || better (value count) most) ≡ true → IsBestSoFar (count + 1) (Some count) (value count)
  best_next count best most h so_far f ahead = (better_is best so_far.1 ahead ∙ ap (λ o. better_of better value o count) so_far.0 ∙ best_taken count f, (h, refl)) where
    better_is : (o : Option ℕ) → IfSome o (λ target. (target < length marks) × (most ≡ value target)) → (is_none o || better (value count) most) ≡ true
        → Some count ≡ better_of better value o count
    better_is None is m = refl
    better_is (Some b) is m = sym (ap (λ test. cond test (Some count) (Some b)) (ap (λ n. better (value count) n) (sym is.1) ∙ m))

  pub best_stays : (count : ℕ) (best : Option ℕ) (most : ℕ) → IsBestSoFar count best most
      → ((is_none best || better (value count) most) ≡ false) ⊎ (get_or marks count false ≡ true) → IsBestSoFar (count + 1) best most
  best_stays count best most so_far test = at (cases_Bool (get_or marks count false)) test where
    same : (o : Option ℕ) → IfSome o (λ target. (target < length marks) × (most ≡ value target)) → (is_none o || better (value count) most) ≡ false
        → o ≡ better_of better value o count
    same None is m = absurd (true≢false m)
    same (Some b) is m = sym (ap (λ test. cond test (Some count) (Some b)) (ap (λ n. better (value count) n) (sym is.1) ∙ m))

    at : (get_or marks count false ≡ true) ⊎ (get_or marks count false ≡ false)
        → ((is_none best || better (value count) most) ≡ false) ⊎ (get_or marks count false ≡ true) → IsBestSoFar (count + 1) best most
    at (inl t) _ = (so_far.0 ∙ best_kept count t, so_far.1)
    at (inr f) (inl no_more) = (same best so_far.1 no_more ∙ ap (λ o. better_of better value o count) so_far.0 ∙ best_taken count f, so_far.1)
    at (inr f) (inr t) = absurd (true≢false (sym t ∙ f))

-- ---- marks
pub marked_more : (marks : List Bool) (picks : List ℕ) (target : ℕ) → AreMarks marks picks → target < length marks → AreMarks (set marks target true) (target ∷ picks)
marked_more marks picks target are h number = at (cases_eq target number) where
  at : (target ≡ number) ⊎ (target ≡ number → ⊥) → get_or (set marks target true) number false ≡ (nat_eq target number || has picks number)
  at (inl e) = ap (λ n. get_or (set marks n true) number false) e
      ∙ get_or-set_same marks number true false (omega (arith, h, e))
      ∙ sym (ap (λ b. b || has picks number) (eq-eqb target number e))
  at (inr d) = get_or-set_other marks target number true false (λ e. d (sym e))
      ∙ are number
      ∙ sym (ap (λ b. b || has picks number) (ne_eqb target number d))

-- those not marked are those outside
pub unmarked_outside : (marks : List Bool) (picks : List ℕ) (targets : ℕ) → AreMarks marks picks → unmarked marks targets ≡ outside targets picks
unmarked_outside marks picks targets are = ap (λ (test : ℕ → Bool). filter test (range_with_len 0 targets)) tests where
  free : ℕ → Bool
  free n = not (get_or marks n false)

  unpicked : ℕ → Bool
  unpicked n = not (has picks n)

  tests : free ≡ unpicked
  tests = λ i n. not (are n i)
