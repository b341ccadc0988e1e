-- What the rises give, sorted by voter and then by target, are the edges of the run.
use Rattle.std.proofs.Common.{◌≡◌, ℕ, zero, suc, ◌+◌, ◌*◌, ◌<◌, ◌≤◌, ◌≢◌, Bool, true, false, nat_eq, nat_lt, List, []}
use Rattle.std.proofs.Common.{◌∷◌, length, map, filter, IsPermutation, inl, inr, refl, ap, sym, subst, ◌∙◌, arith}
use Rattle.std.specs.List.{range_with_len, IsDistinct, AllByRecursion}
use Rattle.std.specs.List.Sorted.{IsNonDecreasingBy}
use Rattle.std.proofs.lemmas.Nat.{same_from_place}
use Rattle.std.proofs.lemmas.Bool.{cases_Bool, lt-ltb, true≢false}
use Rattle.npos_base.specs.declared.figures.Edge.{Edge}
use Rattle.election_snapshot.specs.Snapshot.{Snapshot, has, nominates}
use Rattle.weight_book.specs.Passing.{nominators}
use Rattle.npos_base.specs.Edge.{place_of}
use Rattle.seat_race.specs.Giving.{edge_along, edges_given}
use Rattle.seq_phragmen.specs.declared.rise.Rise.{Rise}
use Rattle.seq_phragmen.specs.Mined.{score, load_after, given}
use Rattle.seq_phragmen.specs.Kept.{rise_of, rises_after, gifts_after}
use Rattle.seat_race.proofs.InLemmas.{In, in_filter, from_filter, in_map, from_map}
use Rattle.seat_race.proofs.OrderLemmas.{Rises, same_key, rises-map_over, rises_distinct, rising_range, rising_filter, distinct-append, distinct-nil}
use Rattle.seq_phragmen.proofs.PickLemmas.{AreRun}
use Rattle.seq_phragmen.proofs.SplitLemmas.{IsNote, note_is, now_is, noted, rises_now, given_member}
use Rattle.seat_race.proofs.GivingLemmas.{IsGiven, sorted_given}

module _ {X Y : Type 0} (key : X → ℕ) (key_of : Y → ℕ) (f : X → Y) (same : (x : X) → key_of (f x) ≡ key x) where
  distinct-map : (xs : List X) → IsDistinct (same_key key) xs → IsDistinct (same_key key_of) (map f xs)
  unfolding IsDistinct
  distinct-map [] h = tt
  distinct-map (x ∷ xs) h = (all xs h.0, distinct-map xs h.1) where
    all : (ys : List X) → AllByRecursion (λ y. same_key key x y ≡ false) ys → AllByRecursion (λ y. same_key key_of (f x) y ≡ false) (map f ys)
    all [] k = tt
    all (y ∷ ys) k = (ap (λ n. nat_eq n (key_of (f y))) (same x) ∙ ap (λ n. nat_eq (key x) n) (same y) ∙ k.0, all ys k.1)

module _ {X : Type 0} (test : X → X → Bool) (p : X → Bool) where
  distinct-filter : (xs : List X) → IsDistinct test xs → IsDistinct test (filter p xs)
  unfolding IsDistinct
  distinct-filter [] h = tt
  distinct-filter (x ∷ xs) h = elim (cases_Bool (p x)) [
    | inl t ↦ rw t (all xs h.0, distinct-filter xs h.1)
    | inr f ↦ rw f (distinct-filter xs h.1)
  ] where
    all : (ys : List X) → AllByRecursion (λ y. test x y ≡ false) ys → AllByRecursion (λ y. test x y ≡ false) (filter p ys)
    all [] k = tt
    all (y ∷ ys) k = elim (cases_Bool (p y)) [
      | inl t ↦ rw t (k.0, all ys k.1)
      | inr f ↦ rw f (all ys k.1)
    ]

module _ (snapshot : Snapshot) where
  abbrev note_place : Rise → ℕ
  note_place note = note.voter * 65536 + note.target

  above : Edge → Bool
  above edge = nat_lt 0 edge.amount

  abbrev edge_for : List ℕ → Rise → Edge
  edge_for picks note = edge_along (given snapshot picks) note.voter note.target

  -- no two rises are of one voter and one target
  notes_distinct : length snapshot.targets ≤ 65536 → (picks : List ℕ) → AreRun snapshot picks → IsDistinct (same_key note_place) (rises_after snapshot picks)
  notes_distinct few [] run = distinct-nil note_place
  notes_distinct few (pick ∷ picks) run = distinct-append note_place (rises_after snapshot picks) (rises_now snapshot pick picks)
      (notes_distinct few picks run.1) (rises_distinct note_place (rises_now snapshot pick picks) now_rise) differ
    where
      now_rise : Rises note_place (rises_now snapshot pick picks)
      now_rise = rises-map_over note_place (rise_of (load_after snapshot picks) pick (score snapshot (load_after snapshot picks) pick)) (λ a b l. omega (arith, l)) (nominators snapshot pick)
          (rising_filter (λ n. nominates snapshot n pick) (range_with_len 0 (length snapshot.voters)) (rising_range 0 (length snapshot.voters)))

      differ : (x y : Rise) → In (rises_after snapshot picks) x → In (rises_now snapshot pick picks) y → note_place x ≢ note_place y
      differ x y i j e =
          let is = note_is snapshot picks run.1 x i in
          let now = now_is snapshot pick picks run y j in
          let same = (same_from_place x.voter x.target y.voter y.target 65536 (omega (arith, is.target_in_range, few)) (omega (arith, now.0.target_in_range, few)) e).1 in
          true≢false (sym is.member ∙ ap (has picks) (same ∙ now.1) ∙ run.0.is_outside)

  gifts_distinct : length snapshot.targets ≤ 65536 → (picks : List ℕ) → AreRun snapshot picks → IsDistinct (same_key (place_of)) (gifts_after snapshot picks)
  gifts_distinct few picks run = distinct-filter (same_key (place_of)) (λ (edge : Edge). nat_lt 0 edge.amount) (map (edge_for picks) (rises_after snapshot picks))
      (distinct-map note_place (place_of) (edge_for picks) (λ _. refl) (rises_after snapshot picks) (notes_distinct few picks run))

  gift_given : (picks : List ℕ) → AreRun snapshot picks → (edge : Edge) → In (gifts_after snapshot picks) edge → IsGiven snapshot (given snapshot picks) edge
  gift_given picks run edge h =
      let kept = from_filter (λ (e : Edge). nat_lt 0 e.amount) (map (edge_for picks) (rises_after snapshot picks)) edge h in
      let made = from_map (edge_for picks) (rises_after snapshot picks) edge kept.0 in
      along made.0 edge (note_is snapshot picks run made.0 made.1) made.2 kept.1
    where
      some : (n : ℕ) → nat_lt 0 n ≡ true → 0 < n
      some zero p = absurd (true≢false (sym p))
      some (suc n) p = omega arith

      along : (note : Rise) (edge : Edge) → IsNote snapshot picks note → edge_for picks note ≡ edge → nat_lt 0 edge.amount ≡ true → IsGiven snapshot (given snapshot picks) edge
      along note edge is e p = record {
        voter_in_range = omega (arith, is.voter_in_range, ap (λ (x : Edge). x.voter) e);
        target_in_range = omega (arith, is.target_in_range, ap (λ (x : Edge). x.target) e);
        more = some edge.amount p;
        is = subst (λ (x : Edge). x.amount ≡ given snapshot picks x.voter x.target) e refl;
      }

  to_gift : (picks : List ℕ) (edge : Edge) → IsGiven snapshot (given snapshot picks) edge → In (gifts_after snapshot picks) edge
  to_gift picks edge is =
      let gives = given_member snapshot picks edge.voter edge.target (omega (arith, is.more, is.is)) in
      let note = noted snapshot picks edge.voter edge.target gives.0 gives.1 in
      in_filter (λ (e : Edge). nat_lt 0 e.amount) (map (edge_for picks) (rises_after snapshot picks)) edge
      (subst (λ e. In (map (edge_for picks) (rises_after snapshot picks)) e) (same note.0 note.2 note.3) (in_map (edge_for picks) (rises_after snapshot picks) note.0 note.1))
      (lt-ltb 0 edge.amount is.more)
    where
      same : (note : Rise) → note.voter ≡ edge.voter → note.target ≡ edge.target → edge_for picks note ≡ edge
      same note v t = ap (λ n. edge_along (given snapshot picks) n note.target) v ∙ ap (λ n. edge_along (given snapshot picks) edge.voter n) t
          ∙ ap (λ n. edge_with n) (sym is.is)
        where
          edge_with : ℕ → Edge
          edge_with n = record { voter = edge.voter; target = edge.target; amount = n }

  pub sorted_gifts : length snapshot.targets ≤ 65536 → (picks : List ℕ) → AreRun snapshot picks → (edges : List Edge) → IsPermutation (gifts_after snapshot picks) edges
      → IsNonDecreasingBy (place_of) edges → edges ≡ edges_given snapshot (given snapshot picks)
  sorted_gifts few picks run edges moved up = sorted_given snapshot (given snapshot picks) few (gifts_after snapshot picks) edges
      (gifts_distinct few picks run) (gift_given picks run) (to_gift picks) moved up
