-- Whether a mark stands twice, by the classes of the marks behind it.
use Rattle.std.proofs.Common.{arith, ◌≡◌, ◌≢◌, ◌∙◌, ◌+◌, ◌||◌, ◌⊎◌, inl, inr, ap, subst, sym, ◌%◌, ℕ, zero, suc, ◌<◌, ◌≤◌, nat_eq, eqb}
use Rattle.std.proofs.Common.{Bool, true, false, List, [], ◌∷◌, length, drop, slice_index_or, slice_set, All, refl, get_or-set_other}
use Rattle.std.specs.List.{list_any}
use Rattle.std.proofs.Math.Seq.{drop-cons}
use Rattle.std.proofs.lemmas.Bool.Decides.{eqb_tells}
use Rattle.std.proofs.lemmas.Grind.{get_or-set_at}
use Rattle.std.proofs.lemmas.List.{get_or-drop, get_or_default, length-drop}
use Rattle.std.proofs.lemmas.List.Folds.{list_any_none}
use Rattle.voter_lists.specs.Marks.{has_repeated_mark}

-- the classes of the marks from i on are met, of 256
abbrev pub AreMet : List ℕ → ℕ → List Bool → Type 0
AreMet marks i is_met = (k d : ℕ) → i ≤ k → k < length marks → slice_index_or is_met (slice_index_or marks k d % 256) false ≡ true

-- a mark whose class is not met is none of those from i on
pub unmet_absent : (marks : List ℕ) (i mark : ℕ) (is_met : List Bool) → AreMet marks i is_met
    → slice_index_or is_met (mark % 256) false ≡ false → list_any (λ other. nat_eq other mark) (drop i marks) ≡ false
unmet_absent marks i mark is_met met unmet = list_any_none (λ other. nat_eq other mark) (drop i marks) each where
  differs : (other : ℕ) → slice_index_or is_met (other % 256) false ≡ true → nat_eq other mark ≡ false
  differs other seen = grind arith

  each : All (λ other. nat_eq other mark ≡ false) (drop i marks)
  each k d below = let inside = length-drop i marks in rw (get_or-drop i marks k d) (differs (slice_index_or marks (i + k) d) (met (i + k) d (omega arith) (omega (arith, below))))

-- the class of the mark in front of them is met, too
pub met_more : (marks : List ℕ) (i j : ℕ) (is_met : List Bool) → i ≡ j + 1 → length is_met ≡ 256 → AreMet marks i is_met → AreMet marks j (slice_set is_met (slice_index_or marks j 0 % 256) true)
met_more marks i j is_met next whole met k d from inside = by_class (eqb_tells (slice_index_or marks k d % 256) (slice_index_or marks j 0 % 256)) where
  by_class : ((eqb (slice_index_or marks k d % 256) (slice_index_or marks j 0 % 256) ≡ true)
      × (slice_index_or marks k d % 256 ≡ slice_index_or marks j 0 % 256))
      ⊎ ((eqb (slice_index_or marks k d % 256) (slice_index_or marks j 0 % 256) ≡ false)
      × (slice_index_or marks k d % 256 ≢ slice_index_or marks j 0 % 256))
      → slice_index_or (slice_set is_met (slice_index_or marks j 0 % 256) true) (slice_index_or marks k d % 256) false ≡ true
  by_class (inl (_, same)) = get_or-set_at is_met (slice_index_or marks j 0 % 256) (slice_index_or marks k d % 256) true false same (grind arith)
  by_class (inr (_, other)) = get_or-set_other is_met (slice_index_or marks j 0 % 256) (slice_index_or marks k d % 256) true false other ∙ met k d (behind (eqb_tells k j)) inside where
    behind : ((eqb k j ≡ true) × (k ≡ j)) ⊎ ((eqb k j ≡ false) × (k ≢ j)) → i ≤ k
    behind (inl (_, here)) = absurd (other (let within : j < length marks = omega (arith, here, inside) in rw here (ap (λ n. n % 256) (get_or_default marks j d 0 within))))
    behind (inr (_, apart)) = omega (arith, next, from, apart)

-- a mark in front of those behind it
repeat_front : (marks : List ℕ) (j : ℕ) → j < length marks → has_repeated_mark (drop j marks)
    ≡ (list_any (λ other. nat_eq other (slice_index_or marks j 0)) (drop (j + 1) marks) || has_repeated_mark
    (drop (j + 1) marks))
repeat_front marks j inside = let suc_j : j + 1 ≡ suc j = omega arith in rw suc_j (rw (drop-cons marks j 0 inside) refl)

-- what repeats at the end of a list repeats in it
repeat_behind : (marks : List ℕ) (i : ℕ) → has_repeated_mark (drop i marks) ≡ true → true ≡ has_repeated_mark marks
repeat_behind marks zero e = sym e
repeat_behind [] (suc i) e = sym e
repeat_behind (mark ∷ marks) (suc i) e = rw (sym (repeat_behind marks i e)) (grind arith)

-- a mark that stands again repeats in the list
pub repeats_here : (marks : List ℕ) (j : ℕ) → j < length marks → list_any (λ other. nat_eq other (slice_index_or marks j 0)) (drop (j + 1) marks) ≡ true → true ≡ has_repeated_mark marks
repeats_here marks j inside again = repeat_behind marks j (repeat_front marks j inside ∙ (rw again refl))

-- one that does not stand again leaves what repeats behind it
pub repeats_not : (marks : List ℕ) (i j : ℕ) → i ≡ j + 1 → j < length marks
    → list_any (λ other. nat_eq other (slice_index_or marks j 0)) (drop (j + 1) marks) ≡ false
    → has_repeated_mark (drop i marks) ≡ false → has_repeated_mark (drop j marks) ≡ false
repeats_not marks i j next inside once behind = repeat_front marks j inside ∙ (rw once (subst (λ n. has_repeated_mark (drop n marks) ≡ false) next behind))
