-- The draws, sorted by voter and then by target, are the edges of the fill.
use Rattle.std.proofs.Common.{◌≡◌, ℕ, zero, suc, ◌+◌, ◌<◌, ◌≤◌, ◌⊎◌, ◌≢◌, true, false, nat_eq, nat_lt, List, [], ◌∷◌, length, map, IsPermutation, inl, inr, refl, ap, sym, subst, ◌∙◌, arith}
use Rattle.std.specs.List.{range_with_len, IsDistinct}
use Rattle.std.specs.List.Sorted.{IsNonDecreasingBy}
use Rattle.std.proofs.lemmas.Nat.{same_from_place}
use Rattle.std.proofs.lemmas.Bool.{cases_Bool, cond-true, cond-false, eq-eqb, eqb-true, lt-ltb, true≢false}
use Rattle.npos_base.specs.declared.figures.Edge.{Edge}
use Rattle.election_snapshot.specs.Snapshot.{Snapshot, has, nominates}
use Rattle.weight_book.specs.Passing.{nominators}
use Rattle.npos_base.specs.Edge.{place_of}
use Rattle.seat_race.specs.Giving.{edge_along, edges_given}
use Rattle.quota_fill.specs.Filled.{draw, left_after, given}
use Rattle.quota_fill.specs.Kept.{draw_edge, draws_of, draws_after}
use Rattle.seat_race.proofs.InLemmas.{In, in_left, in_right, in_either, in_filter, from_filter, in_map, from_map, from_range}
use Rattle.seat_race.proofs.OrderLemmas.{Rises, same_key, rises-filter, rises-map_over, rises_distinct, rising_range, rising_filter, distinct-append, distinct-nil}
use Rattle.quota_fill.proofs.PickLemmas.{AreRun}
use Rattle.quota_fill.proofs.DrawLemmas.{drawn_nominates}
use Rattle.seat_race.proofs.GivingLemmas.{IsGiven, sorted_given}
use Rattle.seat_race.proofs.NominatorLemmas.{has_nominators}
use Rattle.quota_fill.proofs.EdgeLemmas.{given_member}

module _ (snapshot : Snapshot) where
  abbrev left : List ℕ → ℕ → ℕ
  left picks = left_after snapshot picks

  abbrev draws_now : ℕ → List ℕ → List Edge
  draws_now pick picks = draws_of snapshot (left picks) pick (nominators snapshot pick)

  given_now : (pick : ℕ) (picks : List ℕ) (voter : ℕ) → given snapshot (pick ∷ picks) voter pick ≡ draw snapshot (left picks) pick voter
  given_now pick picks voter = cond-true (nat_eq pick pick) (draw snapshot (left picks) pick voter) (given snapshot picks voter pick) (eq-eqb pick pick refl)

  given_before : (pick : ℕ) (picks : List ℕ) (voter target : ℕ) → nat_eq pick target ≡ false → given snapshot (pick ∷ picks) voter target ≡ given snapshot picks voter target
  given_before pick picks voter target f = cond-false (nat_eq pick target) (draw snapshot (left picks) target voter) (given snapshot picks voter target) f

  -- a pick is none of those before it
  apart : (pick : ℕ) (picks : List ℕ) → has picks pick ≡ false → (target : ℕ) → has picks target ≡ true → nat_eq pick target ≡ false
  apart pick picks out target t = at (cases_Bool (nat_eq pick target)) where
    at : (nat_eq pick target ≡ true) ⊎ (nat_eq pick target ≡ false) → nat_eq pick target ≡ false
    at (inr f) = f
    at (inl e) = absurd (true≢false (sym t ∙ ap (has picks) (sym (eqb-true pick target e)) ∙ out))

  now_is : (pick : ℕ) (picks : List ℕ) → pick < length snapshot.targets → (edge : Edge) → In (draws_now pick picks) edge → IsGiven snapshot (given snapshot (pick ∷ picks)) edge × (edge.target ≡ pick)
  now_is pick picks h edge i =
      let kept = from_filter (λ (e : Edge). nat_lt 0 e.amount) (map (draw_edge snapshot (left picks) pick) (nominators snapshot pick)) edge i in
      let made = from_map (draw_edge snapshot (left picks) pick) (nominators snapshot pick) edge kept.0 in
      along made.0 edge (from_range 0 (length snapshot.voters) made.0
      (from_filter (λ n. nominates snapshot n pick) (range_with_len 0 (length snapshot.voters)) made.0 made.1).0).1 made.2 kept.1
    where
      some : (n : ℕ) → nat_lt 0 n ≡ true → 0 < n
      some zero p = absurd (true≢false (sym p))
      some (suc n) p = omega arith

      along : (voter : ℕ) (edge : Edge) → voter < 0 + length snapshot.voters → draw_edge snapshot (left picks) pick voter ≡ edge → nat_lt 0 edge.amount ≡ true
          → IsGiven snapshot (given snapshot (pick ∷ picks)) edge × (edge.target ≡ pick)
      along voter edge v e p = (
        record {
          voter_in_range = omega (arith, v, ap (λ (x : Edge). x.voter) e);
          target_in_range = omega (arith, h, ap (λ (x : Edge). x.target) e);
          more = some edge.amount p;
          is = subst (λ (x : Edge). x.amount ≡ given snapshot (pick ∷ picks) x.voter x.target) e (sym (given_now pick picks voter));
        },
        sym (ap (λ (x : Edge). x.target) e),
      )

  -- each draw is what its voter gave to its target
  pub draw_is : (picks : List ℕ) → AreRun snapshot picks → (edge : Edge) → In (draws_after snapshot picks) edge → IsGiven snapshot (given snapshot picks) edge
  draw_is [] run edge h = absurd h
  draw_is (pick ∷ picks) run edge h = elim (in_either (draws_after snapshot picks) (draws_now pick picks) edge h) [
    | inl l ↦ earlier (draw_is picks run.1 edge l)
    | inr r ↦ (now_is pick picks run.0.in_range edge r).0
  ] where
    earlier : IsGiven snapshot (given snapshot picks) edge → IsGiven snapshot (given snapshot (pick ∷ picks)) edge
    earlier is = record {
      voter_in_range = is.voter_in_range;
      target_in_range = is.target_in_range;
      more = is.more;
      is = is.is ∙ sym (given_before pick picks edge.voter edge.target
          (apart pick picks run.0.is_outside edge.target (given_member snapshot picks edge.voter edge.target (omega (arith, is.more, is.is))).0));
    }

  -- and all that was given was drawn
  pub drawn : (picks : List ℕ) (voter target : ℕ) → 0 < given snapshot picks voter target → In (draws_after snapshot picks) (edge_along (given snapshot picks) voter target)
  drawn [] voter target h = absurd (omega (arith, h))
  drawn (pick ∷ picks) voter target h = at (cases_Bool (nat_eq pick target)) (λ l. drawn picks voter target l) where
    at : (nat_eq pick target ≡ true) ⊎ (nat_eq pick target ≡ false) → (0 < given snapshot picks voter target → In (draws_after snapshot picks) (edge_along (given snapshot picks) voter target))
        → In (draws_after snapshot (pick ∷ picks)) (edge_along (given snapshot (pick ∷ picks)) voter target)
    at (inl t) more = in_right (draws_after snapshot picks) (draws_now pick picks) (edge_along (given snapshot (pick ∷ picks)) voter target)
        (subst (λ n. In (draws_now pick picks) (edge_along (given snapshot (pick ∷ picks)) voter n)) (eqb-true pick target t) here)
      where
        some_now : 0 < draw snapshot (left picks) pick voter
        some_now = omega (arith, h, given_now pick picks voter, ap (given snapshot (pick ∷ picks) voter) (eqb-true pick target t))

        drawn_now : In (draws_now pick picks) (draw_edge snapshot (left picks) pick voter)
        drawn_now = in_filter (λ (e : Edge). nat_lt 0 e.amount) (map (draw_edge snapshot (left picks) pick) (nominators snapshot pick)) (draw_edge snapshot (left picks) pick voter)
            (in_map (draw_edge snapshot (left picks) pick) (nominators snapshot pick) voter (has_nominators snapshot voter pick (drawn_nominates snapshot (left picks) pick voter some_now)))
            (lt-ltb 0 (draw snapshot (left picks) pick voter) some_now)

        here : In (draws_now pick picks) (edge_along (given snapshot (pick ∷ picks)) voter pick)
        here = subst (λ n. In (draws_now pick picks) (record { voter = voter; target = pick; amount = n })) (sym (given_now pick picks voter)) drawn_now
    at (inr f) more = in_left (draws_after snapshot picks) (draws_now pick picks) (edge_along (given snapshot (pick ∷ picks)) voter target)
        (subst (λ n. In (draws_after snapshot picks) (record { voter = voter; target = target; amount = n })) (sym (given_before pick picks voter target f))
        (more (omega (arith, h, given_before pick picks voter target f))))

  -- no two draws are of one voter and one target
  pub draws_distinct : length snapshot.targets ≤ 65536 → (picks : List ℕ) → AreRun snapshot picks → IsDistinct (same_key (place_of)) (draws_after snapshot picks)
  draws_distinct few [] run = distinct-nil (place_of)
  draws_distinct few (pick ∷ picks) run = distinct-append (place_of) (draws_after snapshot picks) (draws_now pick picks)
      (draws_distinct few picks run.1) (rises_distinct (place_of) (draws_now pick picks) now_rise) differ
    where
      now_rise : Rises (place_of) (draws_now pick picks)
      now_rise = rises-filter (place_of) (λ (e : Edge). nat_lt 0 e.amount) (map (draw_edge snapshot (left picks) pick) (nominators snapshot pick))
          (rises-map_over (place_of) (draw_edge snapshot (left picks) pick) (λ a b l. omega (arith, l)) (nominators snapshot pick)
          (rising_filter (λ n. nominates snapshot n pick) (range_with_len 0 (length snapshot.voters)) (rising_range 0 (length snapshot.voters))))

      differ : (x y : Edge) → In (draws_after snapshot picks) x → In (draws_now pick picks) y → place_of x ≢ place_of y
      differ x y i j e =
          let is = draw_is picks run.1 x i in
          let now = now_is pick picks run.0.in_range y j in
          let same = (same_from_place x.voter x.target y.voter y.target 65536 (omega (arith, is.target_in_range, few)) (omega (arith, now.0.target_in_range, few)) e).1 in
          let there : has picks x.target ≡ true = (given_member snapshot picks x.voter x.target (omega (arith, is.more, is.is))).0 in
          true≢false (sym there ∙ ap (has picks) (same ∙ now.1) ∙ run.0.is_outside)

  pub sorted_draws : length snapshot.targets ≤ 65536 → (picks : List ℕ) → AreRun snapshot picks → (edges : List Edge) → IsPermutation (draws_after snapshot picks) edges
      → IsNonDecreasingBy (place_of) edges → edges ≡ edges_given snapshot (given snapshot picks)
  sorted_draws few picks run edges moved up = sorted_given snapshot (given snapshot picks) few (draws_after snapshot picks) edges
      (draws_distinct few picks run) (draw_is picks run) back moved up
    where
      back : (edge : Edge) → IsGiven snapshot (given snapshot picks) edge → In (draws_after snapshot picks) edge
      back edge is = subst (λ n. In (draws_after snapshot picks) (record { voter = edge.voter; target = edge.target; amount = n })) (sym is.is)
          (drawn picks edge.voter edge.target (omega (arith, is.more, is.is)))
