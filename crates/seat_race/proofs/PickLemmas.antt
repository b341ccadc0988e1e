-- The first best of a range is one that no other is better than, and each before it is worse. So picks are different targets,
-- and there is one as long as a target is outside.
use Rattle.std.proofs.Common.{◌≡◌, ℕ, zero, suc, ◌+◌, ◌<◌, ◌≤◌, ◌⊎◌, Bool, true, false, not, cond, nat_eq, nat_lt, List, []}
use Rattle.std.proofs.Common.{◌∷◌, length, get_or, filter, Option, Some, None, inl, inr, refl, ap, ap₂, sym, subst, ◌∙◌, arith}
use Rattle.std.specs.List.{range_with_len, fold, IsDistinct, AllByRecursion, cons_option}
use Rattle.std.proofs.lemmas.Bool.{cases_Bool, cases_lt, cases_eq, cond_both, lt-ltb, le-ltb, or_left, or_right, true≢false}
use Rattle.std.proofs.lemmas.List.FromFn.{length-range_with_len}
use Rattle.election_snapshot.specs.Snapshot.{has}
use Rattle.weight_book.proofs.SumLemmas.{sum_covered, sum_of_ones, eqb_turned}
use Rattle.seat_race.specs.Picks.{better_of, first_best, less, more, outside, picks_by, IsPick}
use Rattle.seat_race.proofs.InLemmas.{In, in_at, from_filter, from_range}
use Rattle.seat_race.proofs.OrderLemmas.{rises_range, rises_distinct}

-- ---- orders
-- it is never better both ways, and what is not better than another is not better than what that is not better than
pub record IsOrder (better : ℕ → ℕ → Bool) : Type 0 where
  pub one_way : (a b : ℕ) → better a b ≡ true → better b a ≡ false
  pub through : (a b c : ℕ) → better a b ≡ false → better b c ≡ false → better a c ≡ false

pub is_less : (a b : ℕ) → nat_lt a b ≡ true → a < b
is_less a b t = elim (cases_lt a b) [
  | inl l ↦ l
  | inr l ↦ absurd (true≢false (sym t ∙ le-ltb a b l))
]

pub not_less : (a b : ℕ) → nat_lt a b ≡ false → b ≤ a
not_less a b f = elim (cases_lt a b) [
  | inl l ↦ absurd (true≢false (sym (lt-ltb a b l) ∙ f))
  | inr l ↦ l
]

pub less_orders : IsOrder less
less_orders = record {
  one_way = λ a b t. le-ltb b a (omega (arith, is_less a b t));
  through = λ a b c f g. le-ltb a c (omega (arith, not_less a b f, not_less b c g));
}

pub more_orders : IsOrder more
more_orders = record {
  one_way = λ a b t. le-ltb a b (omega (arith, is_less b a t));
  through = λ a b c f g. le-ltb c a (omega (arith, not_less b a f, not_less c b g));
}

-- ---- values that agree where the list has them
module _ (better : ℕ → ℕ → Bool) (f g : ℕ → ℕ) where
  abbrev agree : Option ℕ → Type 0
  agree None = Unit {0}
  agree (Some best) = f best ≡ g best

  same_better : (o : Option ℕ) (n : ℕ) → agree o → f n ≡ g n → better_of better f o n ≡ better_of better g o n
  same_better None n a e = refl
  same_better (Some best) n a e = ap₂ (λ x y. cond (better x y) (Some n) (Some best)) e a

  still_agree : (o : Option ℕ) (n : ℕ) → agree o → f n ≡ g n → agree (better_of better g o n)
  still_agree None n a e = e
  still_agree (Some best) n a e = cond_both (better (g n) (g best)) (Some n) (Some best) agree (λ _. e) (λ _. a)

  all_agree : (numbers : List ℕ) (o : Option ℕ) → agree o → ((n : ℕ) → In numbers n → f n ≡ g n) → fold (better_of better f) o numbers ≡ fold (better_of better g) o numbers
  all_agree [] o a h = refl
  all_agree (n ∷ numbers) o a h = ap (λ p. fold (better_of better f) p numbers) (same_better o n a (h n (inl refl)))
      ∙ all_agree numbers (better_of better g o n) (still_agree o n a (h n (inl refl))) (λ m i. h m (inr i))

  pub best_agree : (numbers : List ℕ) → ((n : ℕ) → In numbers n → f n ≡ g n) → first_best better f numbers ≡ first_best better g numbers
  best_agree numbers h = all_agree numbers None tt h

-- ---- a search
next : (low n : ℕ) → low ≤ n → (low ≡ n → ⊥) → low + 1 ≤ n
next low n l differ = omega (arith, l, differ)

module _ (better : ℕ → ℕ → Bool) (order : IsOrder better) where
  not_itself : (a : ℕ) → better a a ≡ false
  not_itself a = elim (cases_Bool (better a a)) [
    | inl t ↦ order.one_way a a t
    | inr f ↦ f
  ]

  lifted : (a b c : ℕ) → better a b ≡ true → better a c ≡ false → better c b ≡ true
  lifted a b c t f = elim (cases_Bool (better c b)) [
    | inl k ↦ k
    | inr n ↦ absurd (true≢false (sym t ∙ order.through a c b f n))
  ]

  over : (a b c : ℕ) → better c b ≡ true → better a b ≡ false → better c a ≡ true
  over a b c t f = elim (cases_Bool (better c a)) [
    | inl k ↦ k
    | inr n ↦ absurd (true≢false (sym t ∙ order.through c a b n f))
  ]

  module _ (value : ℕ → ℕ) (p : ℕ → Bool) where
    abbrev beats : ℕ → ℕ → Bool
    beats a b = better (value a) (value b)

    -- what a search finds from a best so far
    record IsFound (best low count found : ℕ) : Type 0 where
      pub origin : (found ≡ best) ⊎ ((low ≤ found) × (found < low + count) × (p found ≡ true))
      pub most_before : beats best found ≡ false
      pub above_before : best < found → beats found best ≡ true
      pub most : (n : ℕ) → low ≤ n → n < low + count → p n ≡ true → beats n found ≡ false
      pub first : (n : ℕ) → low ≤ n → n < found → p n ≡ true → beats found n ≡ true

    abbrev Found : ℕ → ℕ → ℕ → Option ℕ → Type 0
    Found best low count None = ⊥
    Found best low count (Some found) = IsFound best low count found

    pub record IsBest (low count found : ℕ) : Type 0 where
      pub from : low ≤ found
      pub below : found < low + count
      pub passes : p found ≡ true
      pub most : (n : ℕ) → low ≤ n → n < low + count → p n ≡ true → beats n found ≡ false
      pub first : (n : ℕ) → low ≤ n → n < found → p n ≡ true → beats found n ≡ true

    abbrev pub Best : ℕ → ℕ → Option ℕ → Type 0
    Best low count None = (n : ℕ) → low ≤ n → n < low + count → p n ≡ false
    Best low count (Some found) = IsBest low count found

    other : (low n : ℕ) → p low ≡ false → low ≤ n → p n ≡ true → low + 1 ≤ n
    other low n f l t = next low n l (λ e. true≢false (sym t ∙ sym (ap p e) ∙ f))

    passed_over : (best low count : ℕ) → p low ≡ false → (o : Option ℕ) → Found best (low + 1) count o → Found best low (suc count) o
    passed_over best low count f None h = h
    passed_over best low count f (Some found) h = record {
      origin = elim h.origin [
        | inl e ↦ inl e
        | inr k ↦ inr (omega (arith, k.0), omega (arith, k.1), k.2)
      ];
      most_before = h.most_before;
      above_before = h.above_before;
      most = λ n l m t. h.most n (other low n f l t) (omega (arith, m)) t;
      first = λ n l m t. h.first n (other low n f l t) m t;
    }

    replaced : (best low count : ℕ) → p low ≡ true → beats low best ≡ true → (o : Option ℕ) → Found low (low + 1) count o → Found best low (suc count) o
    replaced best low count t ahead None h = h
    replaced best low count t ahead (Some found) h = record {
      origin = elim h.origin [
        | inl e ↦ inr (omega (arith, e), omega (arith, e), ap p e ∙ t)
        | inr k ↦ inr (omega (arith, k.0), omega (arith, k.1), k.2)
      ];
      most_before = order.one_way (value found) (value best) (lifted (value low) (value best) (value found) ahead h.most_before);
      above_before = λ _. lifted (value low) (value best) (value found) ahead h.most_before;
      most = λ n l m q. elim (cases_eq low n) [
        | inl e ↦ subst (λ k. beats k found ≡ false) e h.most_before
        | inr d ↦ h.most n (next low n l d) (omega (arith, m)) q
      ];
      first = λ n l m q. elim (cases_eq low n) [
        | inl e ↦ subst (λ k. beats found k ≡ true) e (h.above_before (omega (arith, e, m)))
        | inr d ↦ h.first n (next low n l d) m q
      ];
    }

    kept : (best low count : ℕ) → best < low → beats low best ≡ false → (o : Option ℕ) → Found best (low + 1) count o → Found best low (suc count) o
    kept best low count up no_more None h = h
    kept best low count up no_more (Some found) h = record {
      origin = elim h.origin [
        | inl e ↦ inl e
        | inr k ↦ inr (omega (arith, k.0), omega (arith, k.1), k.2)
      ];
      most_before = h.most_before;
      above_before = h.above_before;
      most = λ n l m q. elim (cases_eq low n) [
        | inl e ↦ subst (λ k. beats k found ≡ false) e (order.through (value low) (value best) (value found) no_more h.most_before)
        | inr d ↦ h.most n (next low n l d) (omega (arith, m)) q
      ];
      first = λ n l m q. elim (cases_eq low n) [
        | inl e ↦ subst (λ k. beats found k ≡ true) e (over (value low) (value best) (value found) (h.above_before (omega (arith, e, m, up))) no_more)
        | inr d ↦ h.first n (next low n l d) m q
      ];
    }

    abbrev after : ℕ → ℕ → ℕ → Bool → Option ℕ
    after best low count b = fold (better_of better value) (cond b (Some low) (Some best)) (filter p (range_with_len (low + 1) count))

    chosen : (best low count : ℕ) (b : Bool) → b ≡ true → Found best low (suc count) (after best low count true) → Found best low (suc count) (after best low count b)
    chosen best low count true e h = h
    chosen best low count false e h = absurd (true≢false (sym e))

    stays : (best low count : ℕ) (b : Bool) → b ≡ false → Found best low (suc count) (after best low count false) → Found best low (suc count) (after best low count b)
    stays best low count false e h = h
    stays best low count true e h = absurd (true≢false e)

    found : (best low count : ℕ) → best < low → Found best low count (fold (better_of better value) (Some best) (filter p (range_with_len low count)))
    found best low zero up = record {
      origin = inl refl;
      most_before = not_itself (value best);
      above_before = λ l. absurd (omega (arith, l));
      most = λ n l m q. absurd (omega (arith, l, m));
      first = λ n l m q. absurd (omega (arith, l, m, up));
    }
    found best low (suc count) up = elim (cases_Bool (p low)) [
      | inl t ↦ rw t (elim (cases_Bool (beats low best)) [
        | inl l ↦ chosen best low count (beats low best) l (replaced best low count t l _ (found low (low + 1) count (omega arith)))
        | inr l ↦ stays best low count (beats low best) l (kept best low count up l _ (found best (low + 1) count (omega (arith, up))))
      ])
      | inr f ↦ rw f (passed_over best low count f _ (found best (low + 1) count (omega (arith, up))))
    ]

    started : (low count : ℕ) → p low ≡ true → (o : Option ℕ) → Found low (low + 1) count o → Best low (suc count) o
    started low count t None h = absurd h
    started low count t (Some found) h = record {
      from = elim h.origin [
        | inl e ↦ omega (arith, e)
        | inr k ↦ omega (arith, k.0)
      ];
      below = elim h.origin [
        | inl e ↦ omega (arith, e)
        | inr k ↦ omega (arith, k.1)
      ];
      passes = elim h.origin [
        | inl e ↦ ap p e ∙ t
        | inr k ↦ k.2
      ];
      most = λ n l m q. elim (cases_eq low n) [
        | inl e ↦ subst (λ k. beats k found ≡ false) e h.most_before
        | inr d ↦ h.most n (next low n l d) (omega (arith, m)) q
      ];
      first = λ n l m q. elim (cases_eq low n) [
        | inl e ↦ subst (λ k. beats found k ≡ true) e (h.above_before (omega (arith, e, m)))
        | inr d ↦ h.first n (next low n l d) m q
      ];
    }

    skipped : (low count : ℕ) → p low ≡ false → (o : Option ℕ) → Best (low + 1) count o → Best low (suc count) o
    skipped low count f None h = λ n l m. elim (cases_eq low n) [
      | inl e ↦ sym (ap p e) ∙ f
      | inr d ↦ h n (next low n l d) (omega (arith, m))
    ]
    skipped low count f (Some found) h = record {
      from = omega (arith, h.from);
      below = omega (arith, h.below);
      passes = h.passes;
      most = λ n l m t. h.most n (other low n f l t) (omega (arith, m)) t;
      first = λ n l m t. h.first n (other low n f l t) m t;
    }

    pub best_is : (low count : ℕ) → Best low count (first_best better value (filter p (range_with_len low count)))
    best_is low zero = λ n l m. absurd (omega (arith, l, m))
    best_is low (suc count) = elim (cases_Bool (p low)) [
      | inl t ↦ rw t (started low count t _ (found low (low + 1) count (omega arith)))
      | inr f ↦ rw f (skipped low count f _ (best_is (low + 1) count))
    ]

-- ---- picks
not_true : (b : Bool) → not b ≡ true → b ≡ false
not_true false h = refl
not_true true h = absurd (true≢false (sym h))

not_false : (b : Bool) → not b ≡ false → b ≡ true
not_false true h = refl
not_false false h = absurd (true≢false h)

to_not : (b : Bool) → b ≡ false → not b ≡ true
to_not false h = refl
to_not true h = absurd (true≢false h)

pub outside_below : (targets : ℕ) (picks : List ℕ) (n : ℕ) → In (outside targets picks) n → n < targets
outside_below targets picks n i = omega (arith, (from_range 0 targets n (from_filter (λ m. not (has picks m)) (range_with_len 0 targets) n i).0).1)

-- of so many targets, each pick the first best outside by what it is worth after those before
module _ (targets : ℕ) (better : ℕ → ℕ → Bool) (order : IsOrder better) (value : List ℕ → ℕ → ℕ) where
  abbrev pub next_best : List ℕ → Option ℕ
  next_best picks = first_best better (value picks) (outside targets picks)

  abbrev is_free : List ℕ → ℕ → Bool
  is_free picks target = not (has picks target)

  next_is : (picks : List ℕ) → Best better order (value picks) (is_free picks) 0 targets (next_best picks)
  next_is picks = best_is better order (value picks) (is_free picks) 0 targets

  pub next_best_is : (picks : List ℕ) (target : ℕ) → next_best picks ≡ Some target → IsPick targets better (value picks) picks target
  next_best_is picks target e = from (subst (λ o. Best better order (value picks) (is_free picks) 0 targets o) e (next_is picks)) where
    from : IsBest better order (value picks) (is_free picks) 0 targets target → IsPick targets better (value picks) picks target
    from h = record {
      in_range = omega (arith, h.below);
      is_outside = not_true (has picks target) h.passes;
      best = λ other l f. h.most other (omega arith) (omega (arith, l)) (to_not (has picks other) f);
      lowest = λ other l f. h.first other (omega arith) l (to_not (has picks other) f);
    }

  -- some target is outside, where there are more targets than picks
  pub next_exists : (picks : List ℕ) → length picks < targets → (target : ℕ) × (next_best picks ≡ Some target)
  next_exists picks few = at (next_best picks) refl where
    at : (o : Option ℕ) → next_best picks ≡ o → (target : ℕ) × (next_best picks ≡ Some target)
    at (Some target) e = (target, e)
    at None e =
        let none : (n : ℕ) → 0 ≤ n → n < 0 + targets → is_free picks n ≡ false
        = subst (λ o. Best better order (value picks) (is_free picks) 0 targets o) e (next_is picks) in
        let all = range_with_len 0 targets in
        let covered = sum_covered (λ _. 1) all picks (rises_distinct (λ n. n) all (rises_range 0 targets))
        (λ k d l. let inside = from_range 0 targets (get_or all k d) (in_at all k d l) in
        not_false (has picks (get_or all k d)) (none (get_or all k d) inside.0 inside.1)) in
        absurd (omega (arith, few, covered, sum_of_ones all, sum_of_ones picks, length-range_with_len 0 targets))

  abbrev pub picked : ℕ → List ℕ
  picked count = picks_by next_best count

  -- each of the picks was one after those before it
  abbrev pub AreRun : List ℕ → Type 0
  AreRun [] = Unit {0}
  AreRun (target ∷ picks) = IsPick targets better (value picks) picks target × AreRun picks

  pub run_next : (picks : List ℕ) → AreRun picks → (o : Option ℕ) → next_best picks ≡ o → AreRun (cons_option o picks)
  run_next picks run None e = run
  run_next picks run (Some target) e = (next_best_is picks target e, run)

  pub are_run : (count : ℕ) → AreRun (picked count)
  are_run zero = tt
  are_run (suc count) = run_next (picked count) (are_run count) (next_best (picked count)) refl

  pub few_picks : (count : ℕ) → length (picked count) ≤ count
  few_picks zero = omega arith
  few_picks (suc count) = at (next_best (picked count)) (few_picks count) where
    at : (o : Option ℕ) → length (picked count) ≤ count → length (cons_option o (picked count)) ≤ suc count
    at None h = omega (arith, h)
    at (Some target) h = omega (arith, h)

  pub all_picks : (count : ℕ) → count ≤ targets → length (picked count) ≡ count
  all_picks zero h = refl
  all_picks (suc count) h =
      let before = all_picks count (omega (arith, h)) in
      let one = next_exists (picked count) (omega (arith, h, before)) in
      ap (λ o. length (cons_option o (picked count))) one.1 ∙ up (length (picked count)) count before
    where
      up : (a b : ℕ) → a ≡ b → suc a ≡ suc b
      up a b e = omega (arith, e)

  pub pick_in_range : (picks : List ℕ) → AreRun picks → (target : ℕ) → In picks target → target < targets
  pick_in_range [] run target h = absurd h
  pick_in_range (pick ∷ picks) run target (inl e) = omega (arith, run.0.in_range, e)
  pick_in_range (pick ∷ picks) run target (inr h) = pick_in_range picks run.1 target h

  pub picks_distinct : (picks : List ℕ) → AreRun picks → IsDistinct nat_eq picks
  unfolding IsDistinct
  picks_distinct [] run = tt
  picks_distinct (pick ∷ picks) run = (all picks run.0.is_outside, picks_distinct picks run.1) where
    all : (ns : List ℕ) → has ns pick ≡ false → AllByRecursion (λ n. nat_eq pick n ≡ false) ns
    all [] h = tt
    all (n ∷ ns) h = (apart n ns h (cases_Bool (nat_eq pick n)), all ns (rest n ns h (cases_Bool (has ns pick)))) where
      apart : (n : ℕ) (ns : List ℕ) → has (n ∷ ns) pick ≡ false → (nat_eq pick n ≡ true) ⊎ (nat_eq pick n ≡ false) → nat_eq pick n ≡ false
      apart n ns h (inr f) = f
      apart n ns h (inl t) = absurd (true≢false (sym (or_left (nat_eq n pick) (has ns pick) (turned pick n t)) ∙ h)) where
        turned : (a b : ℕ) → nat_eq a b ≡ true → nat_eq b a ≡ true
        turned a b t = eqb_turned b a ∙ t

      rest : (n : ℕ) (ns : List ℕ) → has (n ∷ ns) pick ≡ false → (has ns pick ≡ true) ⊎ (has ns pick ≡ false) → has ns pick ≡ false
      rest n ns h (inr f) = f
      rest n ns h (inl t) = absurd (true≢false (sym (or_right (nat_eq n pick) (has ns pick) t) ∙ h))
