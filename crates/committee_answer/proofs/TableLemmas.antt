-- Tables that are filled number by number.
use Rattle.std.proofs.Common.{◌≡◌, ℕ, ◌+◌, ◌<◌, ◌||◌, Bool, true, false, cond, nat_eq, List, [], ◌∷◌, ◌++◌, length, get_or, set, take, filter, inl, inr, refl, ap, ap₂, ◌∙◌, sym}
use Rattle.std.specs.List.{range_with_len}
use Rattle.std.proofs.lemmas.Bool.{cases_eq, or_right, eq-eqb, ne_eqb}
use Rattle.std.proofs.lemmas.List.{get_or-set_same, get_or-set_other}
use Rattle.std.proofs.lemmas.List.Folds.{list_any_more}
use Rattle.std.proofs.lemmas.List.Elements.{filter-append}
use Rattle.election_snapshot.specs.Snapshot.{has}
use Rattle.weight_book.proofs.StakeLemmas.{range_more}
use Rattle.seat_race.proofs.InLemmas.{In}

-- one number more is marked
pub marked_next : (base : ℕ → Bool) (marks : List Bool) (numbers : List ℕ) (i n : ℕ) → i < length numbers → get_or numbers i 0 < length marks
    → get_or marks n false ≡ (base n || has (take i numbers) n)
    → get_or (set marks (get_or numbers i 0) true) n false ≡ (base n || has (take (i + 1) numbers) n)
marked_next base marks numbers i n h inside so = elim (cases_eq (get_or numbers i 0) n) [
  | inl e ↦ ap (λ m. get_or (set marks (get_or numbers i 0) true) m false) (sym e)
      ∙ get_or-set_same marks (get_or numbers i 0) true false inside
      ∙ sym (or_right (base n) (has (take (i + 1) numbers) n)
      (more ∙ or_right (has (take i numbers) n) (nat_eq (get_or numbers i 0) n) (eq-eqb (get_or numbers i 0) n e)))
  | inr e ↦ get_or-set_other marks (get_or numbers i 0) n true false (λ f. e (sym f))
      ∙ so
      ∙ ap (λ b. base n || b) (sym (more ∙ ap (λ b. has (take i numbers) n || b) (ne_eqb (get_or numbers i 0) n e) ∙ or_none (has (take i numbers) n)))
] where
  more : has (take (i + 1) numbers) n ≡ (has (take i numbers) n || nat_eq (get_or numbers i 0) n)
  more = list_any_more (λ other. nat_eq other n) numbers i 0 h

  or_none : (b : Bool) → (b || false) ≡ b
  or_none true = refl
  or_none false = refl

-- what passes of one number more
pub kept_next : (p : ℕ → Bool) (n : ℕ) → filter p (range_with_len 0 (n + 1)) ≡ filter p (range_with_len 0 n) ++ cond (p n) (n ∷ []) []
kept_next p n = ap (filter p) (range_more n) ∙ filter-append p (range_with_len 0 n) (n ∷ []) ∙ ap (λ ms. filter p (range_with_len 0 n) ++ ms) (last (p n)) where
  last : (b : Bool) → cond b (n ∷ filter p []) (filter p []) ≡ cond b (n ∷ []) []
  last true = refl
  last false = refl

-- tests that agree where the list has numbers keep the same
pub filter_agree : (p q : ℕ → Bool) (numbers : List ℕ) → ((n : ℕ) → In numbers n → p n ≡ q n) → filter p numbers ≡ filter q numbers
filter_agree p q [] agree = refl
filter_agree p q (n ∷ numbers) agree =
    ap₂ (λ b (ms : List ℕ). cond b (n ∷ ms) ms) (agree n (inl refl)) (filter_agree p q numbers (λ m i. agree m (inr i)))
