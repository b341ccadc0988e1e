-- The parts of the first rises: what they leave of each stake.
use Rattle.std.proofs.Common.{◌≡◌, ℕ, ◌+◌, ◌-◌, ◌<◌, ◌≤◌, ◌⊎◌, Bool, true, false, not, cond, ◌&&◌, nat_eq, nat_lt, List}
use Rattle.std.proofs.Common.{[], ◌∷◌, ◌++◌, length, take, get_or, set, map, filter, inl, inr, refl, ap, sym, ◌∙◌, arith}
use Rattle.std.proofs.lemmas.List.{map_more, get_or-set_same, get_or-set_other}
use Rattle.std.proofs.lemmas.List.Elements.{filter-append}
use Rattle.std.proofs.lemmas.Bool.{cases_eq, eq-eqb, ne_eqb}
use Rattle.npos_base.specs.declared.figures.Edge.{Edge}
use Rattle.election_snapshot.specs.Snapshot.{Snapshot, stake_of}
use Rattle.weight_book.proofs.SumLemmas.{sum_filter_more, sum_filter-take-le}
use Rattle.seq_phragmen.specs.declared.rise.Rise.{Rise}
use Rattle.seq_phragmen.specs.Mined.{part}
use Rattle.seat_race.specs.Tables.{says}
use Rattle.seq_phragmen.specs.Kept.{earlier_parts, gift_edge, gifts_of}

module _ (snapshot : Snapshot) (loads lasts : List ℕ) (rises : List Rise) where
  abbrev pub taken_from : ℕ → ℕ → ℕ
  taken_from i voter = earlier_parts snapshot (says loads voter) (says lasts voter) (take i rises) voter

  abbrev pub AreLeft : ℕ → List ℕ → Type 0
  AreLeft i left = (voter : ℕ) → says left voter ≡ stake_of snapshot voter - taken_from i voter

  module _ (i : ℕ) (d : Rise) (h : i < length rises) where
    abbrev pub part_now : ℕ
    part_now = part snapshot (says loads (get_or rises i d).voter) (get_or rises i d).voter (get_or rises i d).height

    more : (voter : ℕ) → taken_from (i + 1) voter ≡ taken_from i voter
        + cond (nat_eq (get_or rises i d).voter voter && not (nat_eq (get_or rises i d).target (says lasts voter))) (part snapshot (says loads voter) voter (get_or rises i d).height) 0
    more voter = sum_filter_more (λ (rise : Rise). nat_eq rise.voter voter && not
        (nat_eq rise.target (says lasts voter))) (λ (rise : Rise). part snapshot (says loads voter) voter rise.height)
        rises i d h

    of_other : (voter : ℕ) → ((get_or rises i d).voter ≡ voter → ⊥) → taken_from (i + 1) voter ≡ taken_from i voter
    of_other voter differ = more voter
        ∙ ap (λ b. taken_from i voter + cond (b && not (nat_eq (get_or rises i d).target (says lasts voter))) (part snapshot (says loads voter) voter (get_or rises i d).height) 0)
        (ne_eqb (get_or rises i d).voter voter differ)
        ∙ omega arith

    of_voter : (last : Bool) → nat_eq (get_or rises i d).target (says lasts (get_or rises i d).voter) ≡ last
        → taken_from (i + 1) (get_or rises i d).voter ≡ taken_from i (get_or rises i d).voter + cond (true && not last) part_now 0
    of_voter last e = more (get_or rises i d).voter
        ∙ ap (λ b. taken_from i (get_or rises i d).voter + cond (b && not (nat_eq (get_or rises i d).target (says lasts (get_or rises i d).voter))) part_now 0)
        (eq-eqb (get_or rises i d).voter (get_or rises i d).voter refl)
        ∙ ap (λ b. taken_from i (get_or rises i d).voter + cond (true && not b) part_now 0) e

    module _ (left : List ℕ) (so_far : AreLeft i left) where
      pub left_kept : nat_eq (get_or rises i d).target (says lasts (get_or rises i d).voter) ≡ true → AreLeft (i + 1) left
      left_kept t voter = so_far voter ∙ ap (λ n. stake_of snapshot voter - n) (sym (at (cases_eq (get_or rises i d).voter voter))) where
        at : ((get_or rises i d).voter ≡ voter) ⊎ ((get_or rises i d).voter ≡ voter → ⊥) → taken_from (i + 1) voter ≡ taken_from i voter
        at (inr differ) = of_other voter differ
        at (inl e) = ap (taken_from (i + 1)) (sym e) ∙ of_voter true t ∙ omega arith ∙ ap (taken_from i) e

      module _ (f : nat_eq (get_or rises i d).target (says lasts (get_or rises i d).voter) ≡ false) where
        pub part_left : earlier_parts snapshot (says loads (get_or rises i d).voter) (says lasts (get_or rises i d).voter) rises (get_or rises i d).voter ≤ stake_of snapshot (get_or rises i d).voter
            → part_now ≤ says left (get_or rises i d).voter
        part_left enough = omega (
          arith,
          so_far (get_or rises i d).voter,
          of_voter false f,
          all_of (get_or rises i d).voter,
          enough,
        ) where
          all_of : (voter : ℕ) → taken_from (i + 1) voter ≤ earlier_parts snapshot (says loads voter) (says lasts voter) rises voter
          all_of voter = sum_filter-take-le (λ (rise : Rise). nat_eq rise.voter voter && not
              (nat_eq rise.target (says lasts voter))) (λ (rise : Rise). part snapshot (says loads voter) voter
              rise.height) rises (i + 1)

        pub left_lowered : (get_or rises i d).voter < length left → AreLeft (i + 1) (set left (get_or rises i d).voter (says left (get_or rises i d).voter - part_now))
        left_lowered below voter = at (cases_eq (get_or rises i d).voter voter) where
          here : says (set left (get_or rises i d).voter (says left (get_or rises i d).voter - part_now)) (get_or rises i d).voter
              ≡ stake_of snapshot (get_or rises i d).voter - taken_from (i + 1) (get_or rises i d).voter
          here = get_or-set_same left (get_or rises i d).voter (says left (get_or rises i d).voter - part_now) 0 below
              ∙ omega (arith, so_far (get_or rises i d).voter, of_voter false f)

          at : ((get_or rises i d).voter ≡ voter) ⊎ ((get_or rises i d).voter ≡ voter → ⊥)
              → says (set left (get_or rises i d).voter (says left (get_or rises i d).voter - part_now)) voter ≡ stake_of snapshot voter - taken_from (i + 1) voter
          at (inl e) = ap (λ n. says (set left (get_or rises i d).voter (says left (get_or rises i d).voter - part_now)) n) (sym e) ∙ here
              ∙ ap (λ n. stake_of snapshot n - taken_from (i + 1) n) e
          at (inr differ) = get_or-set_other left (get_or rises i d).voter voter (says left (get_or rises i d).voter - part_now) 0 (λ e. differ (sym e))
              ∙ so_far voter ∙ ap (λ n. stake_of snapshot voter - n) (sym (of_other voter differ))

-- one more edge
pub gifts_more : (snapshot : Snapshot) (load last rest : ℕ → ℕ) (rises : List Rise) (i : ℕ) (d : Rise) → i < length rises
    → gifts_of snapshot load last rest (take (i + 1) rises) ≡ gifts_of snapshot load last rest (take i rises)
    ++ cond (nat_lt 0 (gift_edge snapshot load last rest (get_or rises i d)).amount) (gift_edge snapshot load last rest (get_or rises i d) ∷ []) []
gifts_more snapshot load last rest rises i d h = ap (filter (λ (edge : Edge). nat_lt 0 edge.amount)) (map_more (gift_edge snapshot load last rest) rises i d h)
    ∙ filter-append (λ (edge : Edge). nat_lt 0 edge.amount) (map (gift_edge snapshot load last rest) (take i rises)) (gift_edge snapshot load last rest (get_or rises i d) ∷ [])
