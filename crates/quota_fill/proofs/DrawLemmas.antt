-- What one target draws: of each nominator no more than it has left, and in all the price of a seat or all that there is.
use Rattle.std.proofs.Common.{◌≡◌, ℕ, zero, suc, ◌+◌, ◌-◌, ◌<◌, ◌≤◌, ◌⊎◌, min, true, false, cond, List, sum_by, inl, inr, ap, sym, subst, ◌∙◌, arith}
use Rattle.std.specs.List.{range_with_len}
use Rattle.std.proofs.lemmas.Bool.{cases_Bool, cond-true, cond-false, cond_both}
use Rattle.std.proofs.lemmas.List.Sums.{sum_by_push}
use Rattle.election_snapshot.specs.Snapshot.{Snapshot, nominates, threshold}
use Rattle.weight_book.proofs.SumLemmas.{sum_of_sums, sum_same}
use Rattle.weight_book.proofs.StakeLemmas.{range_more}
use Rattle.seat_race.specs.Tables.{nominators_before}
use Rattle.seat_race.proofs.NominatorLemmas.{before_more as sum_more}
use Rattle.quota_fill.specs.Filled.{draw}

module _ (snapshot : Snapshot) (left : ℕ → ℕ) (target : ℕ) where
  abbrev price : ℕ
  price = threshold snapshot

  -- what the nominators before a voter have left
  abbrev pub before : ℕ → ℕ
  before voter = sum_by left (nominators_before snapshot target voter)

  pub before_more : (voter : ℕ) → before (voter + 1) ≡ before voter + cond (nominates snapshot voter target) (left voter) 0
  before_more voter = sum_more snapshot left target voter

  pub drawn_from_nominator : (voter : ℕ) → nominates snapshot voter target ≡ true → draw snapshot left target voter ≡ min (left voter) (price - min price (before voter))
  drawn_from_nominator voter t = cond-true (nominates snapshot voter target) (min (left voter) (price - min price (before voter))) 0 t

  pub none_from_others : (voter : ℕ) → nominates snapshot voter target ≡ false → draw snapshot left target voter ≡ 0
  none_from_others voter f = cond-false (nominates snapshot voter target) (min (left voter) (price - min price (before voter))) 0 f

  pub draw_le : (voter : ℕ) → draw snapshot left target voter ≤ left voter
  draw_le voter = cond_both (nominates snapshot voter target) (min (left voter) (price - min price (before voter))) 0 (λ n. n ≤ left voter) (λ _. omega arith) (λ _. omega arith)

  pub drawn_nominates : (voter : ℕ) → 0 < draw snapshot left target voter → nominates snapshot voter target ≡ true
  drawn_nominates voter h = at (cases_Bool (nominates snapshot voter target)) where
    at : (nominates snapshot voter target ≡ true) ⊎ (nominates snapshot voter target ≡ false) → nominates snapshot voter target ≡ true
    at (inl t) = t
    at (inr f) = absurd (omega (arith, h, none_from_others voter f))

  drawn_more : (voter : ℕ) → min price (before voter) + draw snapshot left target voter ≡ min price (before (voter + 1))
  drawn_more voter = elim (cases_Bool (nominates snapshot voter target)) [
    | inl t ↦ omega (arith, before_more voter, drawn_from_nominator voter t, cond-true (nominates snapshot voter target) (left voter) 0 t)
    | inr f ↦ omega (arith, before_more voter, none_from_others voter f, cond-false (nominates snapshot voter target) (left voter) 0 f)
  ]

  pub drawn_in_all : (count : ℕ) → sum_by (draw snapshot left target) (range_with_len 0 count) ≡ min price (before count)
  drawn_in_all zero = omega arith
  drawn_in_all (suc count) = subst (λ n. sum_by (draw snapshot left target) (range_with_len 0 n) ≡ min price (before n)) (one count) (omega (
    arith,
    ap (sum_by (draw snapshot left target)) (range_more count),
    sum_by_push (draw snapshot left target) (range_with_len 0 count) count,
    drawn_in_all count,
    drawn_more count,
  ))
    where
      one : (n : ℕ) → n + 1 ≡ suc n
      one n = omega arith

  pub left_and_drawn : (voters : List ℕ) → sum_by (λ voter. left voter - draw snapshot left target voter) voters + sum_by (draw snapshot left target) voters ≡ sum_by left voters
  left_and_drawn voters =
      sym (sum_of_sums (λ voter. left voter - draw snapshot left target voter) (draw snapshot left target) voters)
      ∙ sum_same (λ voter. left voter - draw snapshot left target voter + draw snapshot left target voter) left (λ voter. omega (arith, draw_le voter)) voters
