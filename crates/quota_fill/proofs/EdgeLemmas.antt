-- The edges of a fill: what they sum to by voter and by target, and how they stand.
use Rattle.std.proofs.Common.{◌≡◌, ℕ, ◌+◌, ◌*◌, ◌/◌, ◌<◌, ◌≤◌, ◌⊎◌, min, true, false, cond, nat_eq, List, [], ◌∷◌, length, sum_by, inl, inr, refl, ap, sym, subst, ◌∙◌, arith}
use Rattle.std.specs.List.{range_with_len}
use Rattle.std.proofs.Math.Nat.{mul-div_cancel}
use Rattle.std.proofs.lemmas.Bool.{cases_Bool, cases_eq, cond-true, cond-false, eq-eqb, ne_eqb, eqb-true, or_left, or_right, true≢false}
use Rattle.npos_base.specs.declared.figures.Edge.{Edge}
use Rattle.election_snapshot.specs.Snapshot.{Snapshot, has, nominates, stake_of, threshold}
use Rattle.weight_book.specs.Weights.{edges_from, edges_to, support}
use Rattle.weight_book.specs.Passing.{pay, slack}
use Rattle.weight_book.proofs.SumLemmas.{sum_of_sums, sum_of_none, sum_same}
use Rattle.seat_race.specs.Giving.{edges_given}
use Rattle.seat_race.proofs.GivingLemmas.{edge_is, spent_is, support_is}
use Rattle.seat_race.proofs.NominatorLemmas.{only_one}
use Rattle.quota_fill.specs.Filled.{draw, left_after, given}
use Rattle.seat_race.proofs.InLemmas.{In, in_filter, from_filter, sum_agree, term_le}
use Rattle.quota_fill.proofs.PickLemmas.{AreRun}
use Rattle.quota_fill.proofs.DrawLemmas.{draw_le, drawn_in_all, drawn_nominates}

-- ---- what was given
module _ (snapshot : Snapshot) where
  abbrev targets : List ℕ
  targets = range_with_len 0 (length snapshot.targets)

  abbrev voters : List ℕ
  voters = range_with_len 0 (length snapshot.voters)

  given_none : (picks : List ℕ) (voter target : ℕ) → has picks target ≡ false → given snapshot picks voter target ≡ 0
  given_none [] voter target h = refl
  given_none (pick ∷ picks) voter target h =
      cond-false (nat_eq pick target) (draw snapshot (left_after snapshot picks) target voter) (given snapshot picks voter target) (apart (cases_Bool (nat_eq pick target)))
      ∙ given_none picks voter target (rest (cases_Bool (has picks target)))
    where
      apart : (nat_eq pick target ≡ true) ⊎ (nat_eq pick target ≡ false) → nat_eq pick target ≡ false
      apart (inr f) = f
      apart (inl t) = absurd (true≢false (sym (or_left (nat_eq pick target) (has picks target) t) ∙ h))

      rest : (has picks target ≡ true) ⊎ (has picks target ≡ false) → has picks target ≡ false
      rest (inr f) = f
      rest (inl t) = absurd (true≢false (sym (or_right (nat_eq pick target) (has picks target) t) ∙ h))

  pub given_member : (picks : List ℕ) (voter target : ℕ) → 0 < given snapshot picks voter target → (has picks target ≡ true) × (nominates snapshot voter target ≡ true)
  given_member [] voter target h = absurd (omega (arith, h))
  given_member (pick ∷ picks) voter target h = at (cases_Bool (nat_eq pick target)) (λ l. given_member picks voter target l) where
    at : (nat_eq pick target ≡ true) ⊎ (nat_eq pick target ≡ false)
        → (0 < given snapshot picks voter target → (has picks target ≡ true) × (nominates snapshot voter target ≡ true))
        → (has (pick ∷ picks) target ≡ true) × (nominates snapshot voter target ≡ true)
    at (inl t) more = (
      or_left (nat_eq pick target) (has picks target) t,
      drawn_nominates snapshot (left_after snapshot picks) target voter
          (omega (arith, h, cond-true (nat_eq pick target) (draw snapshot (left_after snapshot picks) target voter) (given snapshot picks voter target) t)),
    )
    at (inr f) more =
        let rest = more (omega (arith, h, cond-false (nat_eq pick target) (draw snapshot (left_after snapshot picks) target voter) (given snapshot picks voter target) f)) in
        (or_right (nat_eq pick target) (has picks target) rest.0, rest.1)

  -- what a voter gave and what it has left are its stake
  pub given_and_left : (picks : List ℕ) → AreRun snapshot picks → (voter : ℕ) → left_after snapshot picks voter + sum_by (given snapshot picks voter) targets ≡ stake_of snapshot voter
  given_and_left [] run voter = omega (arith, sum_of_none targets)
  given_and_left (pick ∷ picks) run voter =
      let taken = draw snapshot (left_after snapshot picks) pick voter in
      let split = sum_same (given snapshot (pick ∷ picks) voter) (λ target. cond (nat_eq target pick) taken 0 + given snapshot picks voter target) apart targets
      ∙ sum_of_sums (λ target. cond (nat_eq target pick) taken 0) (given snapshot picks voter) targets in
      let one = only_one (λ _. taken) pick 0 (length snapshot.targets) (omega arith) (omega (arith, run.0.in_range)) in
      omega (arith, split, one, given_and_left picks run.1 voter, draw_le snapshot (left_after snapshot picks) pick voter)
    where
      apart : (target : ℕ) → given snapshot (pick ∷ picks) voter target
          ≡ cond (nat_eq target pick) (draw snapshot (left_after snapshot picks) pick voter) 0 + given snapshot picks voter target
      apart target = at (cases_eq pick target) where
        at : (pick ≡ target) ⊎ (pick ≡ target → ⊥) → given snapshot (pick ∷ picks) voter target
            ≡ cond (nat_eq target pick) (draw snapshot (left_after snapshot picks) pick voter) 0 + given snapshot picks voter target
        at (inl e) = omega (
          arith,
          cond-true (nat_eq pick target) (draw snapshot (left_after snapshot picks) target voter) (given snapshot picks voter target) (eq-eqb pick target e),
          ap (λ n. draw snapshot (left_after snapshot picks) n voter) e,
          cond-true (nat_eq target pick) (draw snapshot (left_after snapshot picks) pick voter) 0 (eq-eqb target pick (sym e)),
          given_none picks voter target (subst (λ n. has picks n ≡ false) e run.0.is_outside),
        )
        at (inr d) = omega (
          arith,
          cond-false (nat_eq pick target) (draw snapshot (left_after snapshot picks) target voter) (given snapshot picks voter target) (ne_eqb pick target d),
          cond-false (nat_eq target pick) (draw snapshot (left_after snapshot picks) pick voter) 0 (ne_eqb target pick (λ e. d (sym e))),
        )

  -- no target was given more than the price of a seat
  pub given_within : (picks : List ℕ) (target : ℕ) → sum_by (λ voter. given snapshot picks voter target) voters ≤ threshold snapshot
  given_within [] target = omega (arith, sum_of_none voters)
  given_within (pick ∷ picks) target = at (cases_Bool (nat_eq pick target)) (given_within picks target) where
    at : (nat_eq pick target ≡ true) ⊎ (nat_eq pick target ≡ false) → sum_by (λ voter. given snapshot picks voter target) voters ≤ threshold snapshot
        → sum_by (λ voter. given snapshot (pick ∷ picks) voter target) voters ≤ threshold snapshot
    at (inl t) more = omega (
      arith,
      sum_same (λ voter. given snapshot (pick ∷ picks) voter target) (draw snapshot (left_after snapshot picks) pick)
          (λ voter. cond-true (nat_eq pick target) (draw snapshot (left_after snapshot picks) target voter) (given snapshot picks voter target) t
          ∙ sym (ap (λ n. draw snapshot (left_after snapshot picks) n voter) (eqb-true pick target t))) voters,
      drawn_in_all snapshot (left_after snapshot picks) pick (length snapshot.voters),
    )
    at (inr f) more = omega (
      arith,
      more,
      sum_same (λ voter. given snapshot (pick ∷ picks) voter target) (λ voter. given snapshot picks voter target)
          (λ voter. cond-false (nat_eq pick target) (draw snapshot (left_after snapshot picks) target voter) (given snapshot picks voter target) f) voters,
    )

  module _ (picks : List ℕ) where
    -- ---- what the edges pay
    module _ (run : AreRun snapshot picks) where
      abbrev edges : List Edge
      edges = edges_given snapshot (given snapshot picks)

      pay_is_amount : (edge : Edge) → In edges edge → pay (threshold snapshot) edges edge ≡ edge.amount
      pay_is_amount edge h =
          let is = edge_is snapshot (given snapshot picks) edge h in
          let within : support edges edge.target ≤ threshold snapshot = omega (arith, support_is snapshot (given snapshot picks) edge.target is.target_in_range, given_within picks edge.target) in
          let counted = term_le (λ (e : Edge). e.amount) (edges_to edges edge.target) edge (in_filter (λ (e : Edge). nat_eq e.target edge.target) edges edge h (eq-eqb edge.target edge.target refl)) in
          whole edge.amount (threshold snapshot) (support edges edge.target) within (omega (arith, is.more, counted))
        where
          whole : (amount price s : ℕ) → s ≤ price → 0 < s → amount * min price s / s ≡ amount
          whole amount price s l p = ap (λ n. amount * n / s) (least price s l) ∙ mul-div_cancel amount p where
            least : (a b : ℕ) → b ≤ a → min a b ≡ b
            least a b l = omega (arith, l)

      pub slack_is_left : (voter : ℕ) → voter < length snapshot.voters → slack (threshold snapshot) snapshot edges voter ≡ left_after snapshot picks voter
      slack_is_left voter h =
          let pays = sum_agree (pay (threshold snapshot) edges) (λ (e : Edge). e.amount) (edges_from edges voter)
          (λ edge i. pay_is_amount edge (from_filter (λ (e : Edge). nat_eq e.voter voter) edges edge i).0) in
          omega (arith, pays, spent_is snapshot (given snapshot picks) voter h, given_and_left picks run voter)
