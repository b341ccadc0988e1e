-- Numbers that stand in lists.
use Rattle.std.proofs.Common.{◌≡◌, ℕ, Bool, true, nat_eq, List, [], ◌∷◌, filter, All, refl, sym, ap, ◌∙◌, subst, inl, inr, true≢false}
use Rattle.std.proofs.lemmas.Bool.{cases_Bool, eqb-true}
use Rattle.std.proofs.lemmas.List.Elements.{All-head, All-tail}
use Rattle.election_snapshot.specs.Snapshot.{has}

-- what stands in a list and passes a test stands among those that pass it
pub filter_has : (p : ℕ → Bool) (xs : List ℕ) (x : ℕ) → has xs x ≡ true → p x ≡ true → has (filter p xs) x ≡ true
filter_has p [] x h t = h
filter_has p (y ∷ xs) x h t = elim (cases_Bool (nat_eq y x)) [
  | inl e ↦ rw (ap p (eqb-true y x e) ∙ t, e) refl
  | inr e ↦
      let rest = filter_has p xs x (rw e at h) t in
      elim (cases_Bool (p y)) [
        | inl u ↦ rw (u, e) rest
        | inr u ↦ rw u rest
      ]
]

-- what holds of all of a list holds of what stands in it
pub all_has : (P : ℕ → Type 0) (xs : List ℕ) (x : ℕ) → All P xs → has xs x ≡ true → P x
all_has P [] x all there = absurd (true≢false (sym there))
all_has P (y ∷ xs) x all there = elim (cases_Bool (nat_eq y x)) [
  | inl t ↦ subst P (eqb-true y x t) (All-head P y xs all)
  | inr t ↦ all_has P xs x (All-tail P y xs all) (rw t at there)
]
