-- A voter's load never falls: it is the least score of an earlier round, and scores only grow as loads do.
use Rattle.std.proofs.Common.{◌≡◌, ℕ, ◌+◌, ◌*◌, ◌/◌, ◌<◌, ◌≤◌, ◌⊎◌, min, Bool, true, false, cond, ◌||◌, nat_eq, List, [], ◌∷◌, length, get_or, inl, inr, ap, sym, ◌∙◌, arith}
use Rattle.std.proofs.Math.Nat.{div-zero, div-mul-le_self, le_of_mul-le-mul_right, add-mul, mul-add, mul-le-mul_left, mul-le-mul_right}
use Rattle.std.proofs.lemmas.Nat.{le-div}
use Rattle.std.proofs.lemmas.Bool.{cases_Bool, cases_eq, cond_both, cond-true, cond-false, eqb-true, eq-eqb, ne_eqb, or_right, true≢false}
use Rattle.election_snapshot.specs.Snapshot.{Snapshot, has, nominates, stake_of, total_stake}
use Rattle.weight_book.specs.Passing.{nominators}
use Rattle.weight_book.proofs.SumLemmas.{sum_le}
use Rattle.seq_phragmen.specs.Mined.{greatest_score, seat_load, approval, burden, shared_load, score, load_after, rise, part, parts}
use Rattle.seat_race.proofs.NominatorLemmas.{stakes_to_fit, sum_times}
use Rattle.seq_phragmen.proofs.PickLemmas.{AreRun, least_of}

shared_grows : (seat a b stake : ℕ) → a ≤ b → shared_load seat a stake ≤ shared_load seat b stake
shared_grows seat a b stake l = at (nat_eq stake 0) where
  quotients : (seat + a) / stake ≤ (seat + b) / stake
  quotients = elim (cases_eq stake 0) [
    | inl e ↦ omega (arith, ap (λ n. (seat + a) / n) e, div-zero (seat + a))
    | inr d ↦ le-div ((seat + a) / stake) (seat + b) stake (omega (arith, d)) (omega (arith, div-mul-le_self (seat + a) stake, l))
  ]

  at : (test : Bool) → cond test greatest_score (min greatest_score ((seat + a) / stake)) ≤ cond test greatest_score (min greatest_score ((seat + b) / stake))
  at true = omega arith
  at false = omega (arith, quotients)

pub shared_most : (seat carried stake : ℕ) → shared_load seat carried stake ≤ greatest_score
shared_most seat carried stake = cond_both (nat_eq stake 0) greatest_score (min greatest_score ((seat + carried) / stake)) (λ n. n ≤ greatest_score) (λ _. omega arith) (λ _. omega arith)

shared_some : (seat carried stake : ℕ) → stake ≤ seat → 0 < shared_load seat carried stake
shared_some seat carried stake l = at (cases_eq stake 0) where
  at : (stake ≡ 0) ⊎ (stake ≡ 0 → ⊥) → 0 < shared_load seat carried stake
  at (inl e) = rw (cond-true (nat_eq stake 0) greatest_score (min greatest_score ((seat + carried) / stake)) (eq-eqb stake 0 e)) (omega arith)
  at (inr d) = rw (cond-false (nat_eq stake 0) greatest_score (min greatest_score ((seat + carried) / stake)) (ne_eqb stake 0 d))
      (omega (arith, le-div 1 (seat + carried) stake (omega (arith, d)) (omega (arith, l))))

-- what voters carry where no load is too great
pub burden_fits : (snapshot : Snapshot) (load : ℕ → ℕ) → ((voter : ℕ) → load voter ≤ greatest_score) → (target : ℕ) → burden snapshot load target ≤ total_stake snapshot * greatest_score
burden_fits snapshot load most target = omega (
  arith,
  sum_le (λ voter. stake_of snapshot voter * load voter) (λ voter. stake_of snapshot voter * greatest_score) (nominators snapshot target)
      (λ k d _. mul-le-mul_left (stake_of snapshot (get_or (nominators snapshot target) k d)) (most (get_or (nominators snapshot target) k d))),
  sum_times (stake_of snapshot) greatest_score (nominators snapshot target),
  mul-le-mul_right greatest_score (stakes_to_fit snapshot target),
)

module _ (snapshot : Snapshot) where
  abbrev load : List ℕ → ℕ → ℕ
  load picks = load_after snapshot picks

  abbrev score_now : List ℕ → ℕ → ℕ
  score_now picks target = score snapshot (load_after snapshot picks) target

  pub score_most : (picks : List ℕ) (target : ℕ) → score_now picks target ≤ greatest_score
  score_most picks target = shared_most (seat_load snapshot) (burden snapshot (load picks) target) (approval snapshot target)

  pub score_some : (picks : List ℕ) (target : ℕ) → 0 < score_now picks target
  score_some picks target = shared_some (seat_load snapshot) (burden snapshot (load picks) target) (approval snapshot target) (omega (arith, stakes_to_fit snapshot target))

  score_grows : (f g : ℕ → ℕ) → ((voter : ℕ) → f voter ≤ g voter) → (target : ℕ) → score snapshot f target ≤ score snapshot g target
  score_grows f g l target = shared_grows (seat_load snapshot) (burden snapshot f target) (burden snapshot g target) (approval snapshot target)
      (sum_le (λ voter. stake_of snapshot voter * f voter) (λ voter. stake_of snapshot voter * g voter) (nominators snapshot target)
      (λ k d _. mul-le-mul_left (stake_of snapshot (get_or (nominators snapshot target) k d)) (l (get_or (nominators snapshot target) k d))))

  pub load_most : (picks : List ℕ) (voter : ℕ) → load picks voter ≤ greatest_score
  load_most [] voter = omega arith
  load_most (pick ∷ picks) voter = cond_both (nominates snapshot voter pick) (score_now picks pick) (load picks voter) (λ n. n ≤ greatest_score)
      (λ _. score_most picks pick) (λ _. load_most picks voter)

  pub now_loaded : (pick : ℕ) (picks : List ℕ) (voter : ℕ) → nominates snapshot voter pick ≡ true → load (pick ∷ picks) voter ≡ score_now picks pick
  now_loaded pick picks voter t = cond-true (nominates snapshot voter pick) (score_now picks pick) (load picks voter) t

  pub load_stays : (pick : ℕ) (picks : List ℕ) (voter : ℕ) → nominates snapshot voter pick ≡ false → load (pick ∷ picks) voter ≡ load picks voter
  load_stays pick picks voter f = cond-false (nominates snapshot voter pick) (score_now picks pick) (load picks voter) f

  rest_outside : (pick target : ℕ) (picks : List ℕ) → has (pick ∷ picks) target ≡ false → has picks target ≡ false
  rest_outside pick target picks out = at (cases_Bool (has picks target)) where
    at : (has picks target ≡ true) ⊎ (has picks target ≡ false) → has picks target ≡ false
    at (inr f) = f
    at (inl t) = absurd (true≢false (sym (or_right (nat_eq pick target) (has picks target) t) ∙ out))

  mutual_up : (pick : ℕ) (picks : List ℕ) (voter : ℕ) → load picks voter ≤ score_now picks pick → load picks voter ≤ load (pick ∷ picks) voter
  mutual_up pick picks voter l = cond_both (nominates snapshot voter pick) (score_now picks pick) (load picks voter) (λ n. load picks voter ≤ n) (λ _. l) (λ _. omega arith)

  -- no voter has more than a target outside would put on its nominators
  pub load_low : (picks : List ℕ) → AreRun snapshot picks → (voter target : ℕ) → target < length snapshot.targets → has picks target ≡ false → load picks voter ≤ score_now picks target
  load_low [] run voter target h out = omega arith
  load_low (pick ∷ picks) run voter target h out =
      let before = rest_outside pick target picks out in
      let chosen = least_of snapshot picks pick run.0 target h before in
      let grown = score_grows (load picks) (load (pick ∷ picks)) (λ other. mutual_up pick picks other (load_low picks run.1 other pick run.0.in_range run.0.is_outside)) target in
      let earlier = load_low picks run.1 voter target h before in
      cond_both (nominates snapshot voter pick) (score_now picks pick) (load picks voter) (λ n. n ≤ score_now (pick ∷ picks) target)
      (λ _. omega (arith, chosen, grown)) (λ _. omega (arith, earlier, grown))

  pub load_up : (pick : ℕ) (picks : List ℕ) → AreRun snapshot (pick ∷ picks) → (voter : ℕ) → load picks voter ≤ load (pick ∷ picks) voter
  load_up pick picks run voter = mutual_up pick picks voter (load_low picks run.1 voter pick run.0.in_range run.0.is_outside)

  pub score_up : (pick : ℕ) (picks : List ℕ) → AreRun snapshot (pick ∷ picks) → (target : ℕ) → score_now picks target ≤ score_now (pick ∷ picks) target
  score_up pick picks run target = score_grows (load picks) (load (pick ∷ picks)) (load_up pick picks run) target

  pub load_some : (picks : List ℕ) (voter target : ℕ) → has picks target ≡ true → nominates snapshot voter target ≡ true → 0 < load picks voter
  load_some [] voter target h t = absurd (true≢false (sym h))
  load_some (pick ∷ picks) voter target h t = elim (cases_Bool (nominates snapshot voter pick)) [
    | inl now ↦ omega (arith, now_loaded pick picks voter now, score_some picks pick)
    | inr f ↦ omega (arith, load_stays pick picks voter f, load_some picks voter target (before f) t)
  ] where
    before : nominates snapshot voter pick ≡ false → has picks target ≡ true
    before f = at (cases_Bool (nat_eq pick target)) where
      at : (nat_eq pick target ≡ true) ⊎ (nat_eq pick target ≡ false) → has picks target ≡ true
      at (inl e) = absurd (true≢false (sym t ∙ ap (nominates snapshot voter) (sym (eqb-true pick target e)) ∙ f))
      at (inr d) = sym (ap (λ b. b || has picks target) d) ∙ h

  -- ---- the parts of a stake
  whole_parts : (whole : ℕ) (picks : List ℕ) → AreRun snapshot picks → (voter : ℕ) → parts snapshot whole picks voter * whole ≤ stake_of snapshot voter * load picks voter
  whole_parts whole [] run voter = omega arith
  whole_parts whole (pick ∷ picks) run voter =
      let height = rise snapshot picks pick voter in
      let one = div-mul-le_self (stake_of snapshot voter * height) whole in
      let split = add-mul (part snapshot whole voter height) (parts snapshot whole picks voter) whole in
      let sums = mul-add (stake_of snapshot voter) height (load picks voter) in
      let up : height + load picks voter ≡ load (pick ∷ picks) voter = omega (arith, load_up pick picks run voter) in
      omega (arith, one, split, sums, ap (λ n. stake_of snapshot voter * n) up, whole_parts whole picks run.1 voter)

  pub parts_within : (whole : ℕ) → 0 < whole → (picks : List ℕ) → AreRun snapshot picks → (voter : ℕ) → load picks voter ≤ whole → parts snapshot whole picks voter ≤ stake_of snapshot voter
  parts_within whole some picks run voter l = le_of_mul-le-mul_right (omega (
    arith,
    whole_parts whole picks run voter,
    mul-le-mul_left (stake_of snapshot voter) l,
  )) some
