-- One pick's rises, nominator by nominator, and the tables beside them.
use Rattle.std.proofs.Common.{◌≡◌, ℕ, ◌+◌, ◌-◌, ◌*◌, ◌<◌, ◌≤◌, ◌⊎◌, Bool, true, false, cond, nat_eq, List, [], ◌∷◌, ◌++◌, length, take, get_or, set, map, inl, inr, refl, ap, sym, subst, ◌∙◌, arith}
use Rattle.std.specs.List.{range_with_len}
use Rattle.std.proofs.Math.ListN.{get_or-eq_default}
use Rattle.std.proofs.Math.Nat.{mul-add, mul-le-mul_left, mul-le-mul_right}
use Rattle.std.proofs.lemmas.List.{take_all, map_more, length-set, get_or-set_same, get_or-set_other, append_assoc}
use Rattle.std.proofs.lemmas.Bool.{cases_Bool, cases_eq, cases_lt, cond-true, cond-false, eq-eqb, ne_eqb, true≢false}
use Rattle.election_snapshot.specs.Snapshot.{Snapshot, has, nominates, stake_of, total_stake}
use Rattle.weight_book.specs.Passing.{nominators}
use Rattle.weight_book.proofs.SumLemmas.{sum_of_sums, sum_of_none, sum_same}
use Rattle.seq_phragmen.specs.declared.rise.Rise.{Rise}
use Rattle.seq_phragmen.specs.Mined.{greatest_score, burden}
use Rattle.seat_race.specs.Tables.{says}
use Rattle.seq_phragmen.specs.Kept.{rise_of, AreBurdens}
use Rattle.seat_race.proofs.InLemmas.{in_at, in_has, from_has, from_filter}
use Rattle.seat_race.proofs.NominatorLemmas.{nominates_in_range, has_nominators, nominators_distinct, one_nominator, stake_fits}
use Rattle.seat_race.proofs.TableLemmas.{AreChanged, not_yet, changed}
use Rattle.seq_phragmen.proofs.LoadLemmas.{burden_fits}

-- ---- what is put on one voter comes to what the nominators of each of its votes carry
module _ (snapshot : Snapshot) (loads : List ℕ) (voter height : ℕ) (size : length loads ≡ length snapshot.voters) (in_reach : voter < length snapshot.voters) where
  abbrev pub raised : List ℕ
  raised = set loads voter (says loads voter + height)

  raised_at : (n : ℕ) → stake_of snapshot n * says raised n ≡ stake_of snapshot n * says loads n + cond (nat_eq n voter) (stake_of snapshot n * height) 0
  raised_at n = elim (cases_eq n voter) [
    | inl e ↦ ap (λ m. stake_of snapshot n * m) (ap (says raised) e
        ∙ get_or-set_same loads voter (says loads voter + height) 0 (omega (arith, size, in_reach))
        ∙ ap (λ m. says loads m + height) (sym e))
        ∙ mul-add (stake_of snapshot n) (says loads n) height
        ∙ ap (λ m. stake_of snapshot n * says loads n + m) (sym (cond-true (nat_eq n voter) (stake_of snapshot n * height) 0 (eq-eqb n voter e)))
    | inr differ ↦ ap (λ m. stake_of snapshot n * m) (get_or-set_other loads voter n (says loads voter + height) 0 differ)
        ∙ omega (arith, cond-false (nat_eq n voter) (stake_of snapshot n * height) 0 (ne_eqb n voter differ))
  ]

  burden_raised : (target : ℕ) → burden snapshot (says raised) target ≡ burden snapshot (says loads) target + cond (nominates snapshot voter target) (stake_of snapshot voter * height) 0
  burden_raised target = sum_same (λ n. stake_of snapshot n * says raised n)
      (λ n. stake_of snapshot n * says loads n + cond (nat_eq n voter) (stake_of snapshot n * height) 0) raised_at
      (nominators snapshot target)
      ∙ sum_of_sums (λ n. stake_of snapshot n * says loads n) (λ n. cond (nat_eq n voter) (stake_of snapshot n * height) 0) (nominators snapshot target)
      ∙ ap (λ m. burden snapshot (says loads) target + m) (one_nominator snapshot (λ n. stake_of snapshot n * height) voter target in_reach)

  pub burdens_raised : (burdens new : List ℕ) → AreBurdens snapshot loads burdens → ((target : ℕ) → target < length snapshot.targets
      → says new target ≡ cond (nominates snapshot voter target) (says burdens target + stake_of snapshot voter * height) (says burdens target)) → AreBurdens snapshot raised new
  burdens_raised burdens new are change target h = change target h ∙ one_more (nominates snapshot voter target) (says burdens target) (stake_of snapshot voter * height)
      ∙ ap (λ n. n + cond (nominates snapshot voter target) (stake_of snapshot voter * height) 0) (are target h) ∙ sym (burden_raised target)
    where
      one_more : (b : Bool) (sum more : ℕ) → cond b (sum + more) sum ≡ sum + cond b more 0
      one_more true sum more = refl
      one_more false sum more = omega arith

  pub raise_fits : (burdens : List ℕ) → AreBurdens snapshot loads burdens → ((other : ℕ) → says loads other ≤ greatest_score) → says loads voter + height ≤ greatest_score
      → (target : ℕ) → target < length snapshot.targets → says burdens target + stake_of snapshot voter * height ≤ 2 * (total_stake snapshot * greatest_score)
  raise_fits burdens are most within target h = omega (
    arith,
    are target h,
    burden_fits snapshot (says loads) most target,
    mul-le-mul_left (stake_of snapshot voter) (lower (says loads voter) height greatest_score within),
    mul-le-mul_right greatest_score (stake_fits snapshot voter in_reach),
  ) where
    lower : (a b c : ℕ) → a + b ≤ c → b ≤ c
    lower a b c l = omega (arith, l)

-- nobody carries anything where no voter has a load
pub no_burden : (snapshot : Snapshot) (load : ℕ → ℕ) → ((voter : ℕ) → load voter ≡ 0) → (target : ℕ) → burden snapshot load target ≡ 0
no_burden snapshot load none target = sum_same (λ voter. stake_of snapshot voter * load voter) (λ _. 0)
    (λ voter. ap (λ n. stake_of snapshot voter * n) (none voter) ∙ omega arith) (nominators snapshot target)
    ∙ sum_of_none (nominators snapshot target)

-- ---- one pick
module _ (snapshot : Snapshot) (target score : ℕ) (old lasts_old : List ℕ) (noted : List Rise) where
  abbrev voters : List ℕ
  voters = nominators snapshot target

  -- after the rises of the first of the nominators
  pub record IsRaising (i : ℕ) (loads lasts burdens : List ℕ) (rises : List Rise) : Type 0 where
    pub loads_are : AreChanged (λ _. score) 0 (take i voters) old loads
    pub lasts_are : AreChanged (λ _. target) 0 (take i voters) lasts_old lasts
    pub burdens_are : AreBurdens snapshot loads burdens
    pub burdens_size : length burdens ≡ length snapshot.targets
    pub rises_are : rises ≡ noted ++ map (rise_of (says old) target score) (take i voters)

  module _ (sizes : (length old ≡ length snapshot.voters) × (length lasts_old ≡ length snapshot.voters)) (falls : (voter : ℕ) → says old voter ≤ score)
      (i d : ℕ) (h : i < length voters) (loads lasts burdens : List ℕ) (rises : List Rise) (so_far : IsRaising i loads lasts burdens rises) where
    abbrev pub voter : ℕ
    voter = get_or voters i d

    voter_nominates : nominates snapshot voter target ≡ true
    voter_nominates = (from_filter (λ n. nominates snapshot n target) (range_with_len 0 (length snapshot.voters)) voter (in_at voters i d h)).1

    pub voter_in_range : voter < length snapshot.voters
    voter_in_range = nominates_in_range snapshot voter target voter_nominates

    pub untouched : says loads voter ≡ says old voter
    untouched = not_yet voters (nominators_distinct snapshot target) i d h (λ _. score) 0 old loads so_far.loads_are (omega (arith, voter_in_range, sizes.0))

    pub raising_more : (new : List ℕ) → AreBurdens snapshot (set loads voter (says loads voter + (score - says loads voter))) new → length new ≡ length burdens
        → IsRaising (i + 1) (set loads voter (says loads voter + (score - says loads voter))) (set lasts voter target) new
        (rises ++ record { voter = voter; target = target; height = score - says loads voter } ∷ [])
    raising_more new are size = record {
      loads_are = subst (λ n. AreChanged (λ _. score) 0 (take (i + 1) voters) old (set loads voter n)) (omega (arith, untouched, falls voter)) (
        changed voters (nominators_distinct snapshot target) i d h (λ _. score) 0 old loads so_far.loads_are
            (omega (arith, voter_in_range, sizes.0)),
        length-set loads voter score ∙ so_far.loads_are.1,
      );
      lasts_are = (
        changed voters (nominators_distinct snapshot target) i d h (λ _. target) 0 lasts_old lasts
            so_far.lasts_are (omega (arith, voter_in_range, sizes.1)),
        length-set lasts voter target
            ∙ so_far.lasts_are.1,
      );
      burdens_are = are;
      burdens_size = size ∙ so_far.burdens_size;
      rises_are = ap (λ rs. rs ++ rise_to (score - says loads voter) ∷ []) so_far.rises_are
          ∙ append_assoc noted (map (rise_of (says old) target score) (take i voters)) (rise_to (score - says loads voter) ∷ [])
          ∙ ap (λ rs. noted ++ rs) (ap (λ n. map (rise_of (says old) target score) (take i voters) ++ rise_to (score - n) ∷ []) untouched
          ∙ sym (map_more (rise_of (says old) target score) voters i d h));
    } where
      rise_to : ℕ → Rise
      rise_to n = record { voter = voter; target = target; height = n }

  -- the tables at the end
  pub all_changed : (now_old : List ℕ) → length now_old ≡ length snapshot.voters → (value i : ℕ) (now : List ℕ) → AreChanged (λ _. value) 0 (take i voters) now_old now → length voters ≤ i
      → (n : ℕ) → says now n ≡ cond (nominates snapshot n target) value (says now_old n)
  all_changed now_old size value i now are ends n = elim (cases_lt n (length snapshot.voters)) [
    | inl l ↦ are.0 n (omega (arith, l, size)) ∙ ap (λ ns. cond (has ns n) value (says now_old n)) (take_all i voters ends) ∙ ap (λ b. cond b value (says now_old n)) same
    | inr l ↦ get_or-eq_default now 0 (omega (arith, l, size, are.1))
        ∙ sym (cond-false (nominates snapshot n target) value (says now_old n) (none l)
        ∙ get_or-eq_default now_old 0 (omega (arith, l, size)))
  ] where
    none : length snapshot.voters ≤ n → nominates snapshot n target ≡ false
    none l = at (cases_Bool (nominates snapshot n target)) where
      at : (nominates snapshot n target ≡ true) ⊎ (nominates snapshot n target ≡ false) → nominates snapshot n target ≡ false
      at (inr f) = f
      at (inl t) = absurd (omega (arith, l, nominates_in_range snapshot n target t))

    same : has voters n ≡ nominates snapshot n target
    same = elim (cases_Bool (nominates snapshot n target)) [
      | inl t ↦ in_has voters n (has_nominators snapshot n target t) ∙ sym t
      | inr f ↦ not_there f (cases_Bool (has voters n)) ∙ sym f
    ] where
      not_there : nominates snapshot n target ≡ false → (has voters n ≡ true) ⊎ (has voters n ≡ false) → has voters n ≡ false
      not_there f (inr g) = g
      not_there f (inl t) = absurd (true≢false (sym (from_filter (λ m. nominates snapshot m target) (range_with_len 0 (length snapshot.voters)) n (from_has voters n t)).1 ∙ f))
